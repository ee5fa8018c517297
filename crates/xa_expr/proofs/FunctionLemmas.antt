-- What a function gives is of the kind that its signature tells.
use Rattle.std.proofs.Common.{◌≡◌, List}
use Rattle.xa_value.specs.declared.data_type.DataType.{DataType}
use Rattle.xa_value.specs.declared.value.Value.{Value}
use Rattle.xa_func.specs.declared.func_id.FuncId.{FuncId}
use Rattle.xa_func.specs.declared.func_id.BagFunction.{BagFunction}
use Rattle.xa_func.specs.declared.func_id.BagFunction.TheVariants as bag
use Rattle.xa_func.specs.declared.signature.Kind.{Kind}
use Rattle.xa_func.specs.declared.signature.Signature.{Signature}
use Rattle.xa_func.specs.declared.signature.Signature.TheVariants as signature
use Rattle.xa_func.specs.Signature.{AcceptsKinds, TakesKinds, IsResult, kind_of, signature_of, bag_signature}
use Rattle.xa_bag.specs.declared.value_or_bag.ValueOrBag.{ValueOrBag}
use Rattle.xa_bag.specs.Applying.{IsOfResultKind}
use Rattle.xa_bag.specs.ValueOrBag.{kind_of_argument}
use Rattle.xa_expr.specs.Typed.{result_kind}

typed_by : (s : Signature) (ks : List Kind) (v : Value) → AcceptsKinds s ks → IsResult s v → kind_of v ≡ result_kind s
typed_by (signature.FirstOrder parameters k) ks v takes gives = gives
typed_by (signature.HigherOrder f) ks v takes gives = absurd takes

pub result_typed : (f : FuncId) (ks : List Kind) (v : Value) → TakesKinds f ks → IsResult (signature_of f) v → kind_of v ≡ result_kind (signature_of f)
result_typed f ks v takes gives = typed_by (signature_of f) ks v takes.1 gives

pub bag_result_typed : (f : BagFunction) (t : DataType) (given : ValueOrBag) → IsOfResultKind (bag_signature f t) given → kind_of_argument given ≡ result_kind (bag_signature f t)
bag_result_typed bag.OneAndOnly t given gives = gives
bag_result_typed bag.BagSize t given gives = gives
bag_result_typed bag.IsIn t given gives = gives
bag_result_typed bag.Bag t given gives = gives
bag_result_typed bag.Intersection t given gives = gives
bag_result_typed bag.Union t given gives = gives
bag_result_typed bag.AtLeastOneMemberOf t given gives = gives
bag_result_typed bag.Subset t given gives = gives
bag_result_typed bag.SetEquals t given gives = gives
