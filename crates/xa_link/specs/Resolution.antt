-- Which version a pattern matches, and which document a reference stands for (XACML 3.0, core, sections 5.10 to 5.13).
use Rattle.std.specs.Prelude.{◌≡◌, ℕ, Bool, true, false, not, ◌&&◌, ◌==◌, bytes_eq}
use Rattle.std.specs.Prelude.{List, [], ◌∷◌, slice_get, Option, Some, None}
use Rattle.std.specs.List.{list_all, position}
use Rattle.xa_policy.specs.declared.pattern.PatternPart.{PatternPart}
use Rattle.xa_policy.specs.declared.pattern.PatternPart.TheVariants.{Number, AnyNumber, AnyNumbers}
use Rattle.xa_policy.specs.declared.reference.Reference.{Reference}
use Rattle.xa_policy.specs.DocumentKey.{same_kind}
use Rattle.xa_policy.specs.Version.{is_before}
use Rattle.xa_link.specs.declared.active.Active.{Active}

-- a number matches itself, `*` any one number, and `+` any number and all that follow it
abbrev pub matches : List PatternPart → List ℕ → Bool
matches [] [] = true
matches [] (n ∷ ns) = false
matches (part ∷ parts) [] = false
matches (Number m ∷ parts) (n ∷ ns) = (m == n) && matches parts ns
matches (AnyNumber ∷ parts) (n ∷ ns) = matches parts ns
matches (AnyNumbers ∷ parts) (n ∷ ns) = true

-- the version matches the pattern, if there is one
abbrev pub fits_pattern : Option (List PatternPart) → List ℕ → Bool
fits_pattern None v = true
fits_pattern (Some pattern) v = matches pattern v

-- the version isn't before the earliest, if there is one
abbrev pub not_before : Option (List ℕ) → List ℕ → Bool
not_before None v = true
not_before (Some earliest) v = not (is_before v earliest)

-- the version isn't after the latest, if there is one
abbrev pub not_after : Option (List ℕ) → List ℕ → Bool
not_after None v = true
not_after (Some latest) v = not (is_before latest v)

-- a document of that kind and id, of a version that will do
abbrev pub fits : Reference → Active → Bool
fits reference document =
    same_kind reference.kind document.kind && bytes_eq reference.id document.id
    && fits_pattern reference.version document.version && not_before reference.earliest document.version
    && not_after reference.latest document.version

-- among the documents that fit, none has a later version
abbrev pub none_later : List Active → Reference → Active → Bool
none_later active reference document =
    list_all (λ other. not (fits reference other && is_before document.version other.version)) active

-- the place of the document for which a reference stands: the first that fits, and than which none that fits is later
abbrev pub resolve : List Active → Reference → Option ℕ
resolve active reference = position (λ document. fits reference document && none_later active reference document) active

-- two documents are of one kind, id and version
pub record IsOfOneVersion (a b : Active) : Type 0 where
  pub kind : a.kind ≡ b.kind
  pub id : a.id ≡ b.id
  pub version : a.version ≡ b.version

-- law: references that stand for documents of one kind, id and version stand for the document at one place
abbrev pub OnePlaceForEachVersion : Type 0
OnePlaceForEachVersion =
    (active : List Active) (first second : Reference) (i k : ℕ) (a b : Active) → resolve active first ≡ Some i
    → resolve active second ≡ Some k → slice_get active i ≡ Some a → slice_get active k ≡ Some b
    → IsOfOneVersion a b → i ≡ k
