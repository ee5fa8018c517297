use Rattle.std.proofs.Common.{◌≡◌, ◌∷◌, [], take, rules, arith}
use Rattle.httparse.specs.Grammar.{crlf, lf}
use Rattle.xa_http.proofs.open_head.version_len.Goals as goal

pub returns-then-starts_with-2-clause-read : goal.returns-then-starts_with-2-clause-read
returns-then-starts_with-2-clause-read c =
    let read : take 11 c.args.bytes.now ≡ 32 ∷ 72 ∷ 84 ∷ 84 ∷ 80 ∷ 47 ∷ 49 ∷ 46 ∷ 48 ∷ 13 ∷ 10 ∷ [] = search rules in
    (0, crlf, omega arith, read)

pub returns-then-starts_with-3-clause-read : goal.returns-then-starts_with-3-clause-read
returns-then-starts_with-3-clause-read c =
    let read : take 10 c.args.bytes.now ≡ 32 ∷ 72 ∷ 84 ∷ 84 ∷ 80 ∷ 47 ∷ 49 ∷ 46 ∷ 49 ∷ 10 ∷ [] = search rules in
    (1, lf, omega arith, read)
