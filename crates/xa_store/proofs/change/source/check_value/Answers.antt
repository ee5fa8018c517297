use Rattle.std.proofs.Common.{◌≡◌, true, Ok}
use Rattle.xa_store.proofs.Common.{is_utf8, is_utf8-from_IsUtf8, type_of, printed, read}
use Rattle.xa_store.proofs.SourcePlans.{value_held, value_reads}
use Rattle.xa_store.proofs.change.source.check_value.Goals as goal

pub returns-then-is_same_value : goal.returns-then-is_same_value
returns-then-is_same_value c =
    let value = c.args.value.now in
    let text = c.in_ok-text.text in
    let prints : text ≡ printed value = c.in_ok-text.ensures in
    let reads : read (type_of value) text ≡ Ok c.in_ok-read.read = rw (c.data_type.ensures, c.as_str.ensures) at c.in_ok-read.ensures.value in
    let utf8 : is_utf8 text ≡ true = rw c.as_str.ensures at (is_utf8-from_IsUtf8 _ c.as_str.utf8) in
    record {
      reads = value_reads value c.in_ok-read.read text prints reads (c.is_same_value.ensures.0 c.if-is_same_value.true);
      text = value_held value c.in_ok-read.read text prints utf8 reads (c.is_same_value.ensures.0 c.if-is_same_value.true);
    }
