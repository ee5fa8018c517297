use Rattle.std.proofs.Common.{◌≡◌, true, rules}
use Rattle.xa_store.proofs.Common.{IsUtf8}
use Rattle.xa_store.proofs.OpenedLemmas.{text_told}
use Rattle.xa_store.proofs.check.cell.is_text.Goals as goal

pub returns : goal.returns
returns c =
    let held : c.is_ok.result ≡ true → IsUtf8 c.args.bytes.now = λ ok. search rules in
    let told : IsUtf8 c.args.bytes.now → c.is_ok.result ≡ true = λ text. search rules in
    text_told c.args.bytes.now c.is_ok.result held told
