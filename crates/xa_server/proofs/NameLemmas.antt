-- Names of domains are ASCII, and so UTF-8.
use Rattle.std.proofs.Common.{◌≡◌, ℕ, ◌<◌, true, List, [], ◌∷◌, length, arith}
use Rattle.std.specs.Prelude.{nat_le, ◌&&◌}
use Rattle.std.specs.List.{list_all}
use Rattle.std.specs.Str.{IsAscii, is_utf8}
use Rattle.std.proofs.lemmas.Bool.{and_parts}
use Rattle.std.proofs.lemmas.Grind.{common_steps}
use Rattle.std.proofs.lemmas.Str.{IsUtf8-from_ascii, is_utf8-from_IsUtf8}
use Rattle.std.proofs.lemmas.Str.Ascii.{IsAscii-nil, IsAscii-cons}
use Rattle.xa_records.specs.DomainName.{begins_name, continues_name, is_domain_name}

begins_ascii : (b : ℕ) → begins_name b ≡ true → b < 128
begins_ascii b h = grind (arith, common_steps)

continues_ascii : (b : ℕ) → continues_name b ≡ true → b < 128
continues_ascii b h = grind (arith, common_steps)

later_ascii : (bs : List ℕ) → list_all continues_name bs ≡ true → IsAscii bs
later_ascii [] h = IsAscii-nil
later_ascii (b ∷ bs) h =
    let parts = and_parts (continues_name b) (list_all continues_name bs) h in
    IsAscii-cons b bs (continues_ascii b parts.0) (later_ascii bs parts.1)

-- a domain name is a text
pub name_is_text : (name : List ℕ) → is_domain_name name ≡ true → is_utf8 name ≡ true
unfolding is_domain_name
name_is_text [] h = cc
name_is_text (c ∷ cs) h =
    let parts = and_parts (nat_le (length cs) 31 && begins_name c) (list_all continues_name cs) h in
    let first = and_parts (nat_le (length cs) 31) (begins_name c) parts.0 in
    is_utf8-from_IsUtf8 (c ∷ cs) (IsUtf8-from_ascii (c ∷ cs) (IsAscii-cons c cs (begins_ascii c first.1) (later_ascii cs parts.1)))
