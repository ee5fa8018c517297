use Rattle.std.proofs.Common.{◌≡◌, rules, refl, true, get_or}
use Rattle.httparse.specs.Grammar.{is_token_byte, is_uri_byte, is_value_byte}
use Rattle.xa_http.specs.declared.open_head.HeadPart.TheVariants as part
use Rattle.xa_http.proofs.OpenHeadLemmas.{kept, blank_feed, blank_return, blank_return_feed, method_first, method_more, target_begun, target_more, name_first, name_more, value_first, value_more, value_return, value_feed, value_return_feed}
use Rattle.xa_http.proofs.open_head.part_after.Goals as goal

pub returns-in-Blank : goal.returns-in-Blank
returns-in-Blank c = kept _ _ _ _ _ _ c.requires.within c.if-byte-eq10.true blank_feed c.requires.open c.in-Blank.is

pub returns-in-Blank-2 : goal.returns-in-Blank-2
returns-in-Blank-2 c = kept _ _ _ _ _ _ c.requires.within c.if-byte-eq13.true blank_return c.requires.open c.in-Blank.is

pub returns-in-Blank-3 : goal.returns-in-Blank-3
returns-in-Blank-3 c =
    let passes : is_token_byte (get_or c.args.held.now c.args.at 0) ≡ true = search rules in
    kept part.Blank part.Method _ _ _ _ c.requires.within refl (λ bytes. method_first bytes _ passes) c.requires.open c.in-Blank.is

pub returns-in-BlankReturn : goal.returns-in-BlankReturn
returns-in-BlankReturn c = kept _ _ _ _ _ _ c.requires.within c.if-byte-eq10-2.true blank_return_feed c.requires.open c.in-BlankReturn.is

pub returns-in-Method : goal.returns-in-Method
returns-in-Method c =
    let passes : is_token_byte (get_or c.args.held.now c.args.at 0) ≡ true = search rules in
    kept part.Method part.Method _ _ _ _ c.requires.within refl (λ bytes. method_more bytes _ passes) c.requires.open c.in-Method.is

pub returns-in-Method-2 : goal.returns-in-Method-2
returns-in-Method-2 c = target_begun _ _ _ c.requires.within c.if-byte-eq32.true c.requires.open c.in-Method.is

pub returns-in-Target : goal.returns-in-Target
returns-in-Target c =
    let passes : is_uri_byte (get_or c.args.held.now c.args.at 0) ≡ true = search rules in
    kept (part.Target c.in-Target.start) (part.Target c.in-Target.start) _ _ _ _ c.requires.within refl
    (λ bytes. target_more bytes _ _ passes) c.requires.open c.in-Target.is

pub returns-in-Line : goal.returns-in-Line
returns-in-Line c =
    let passes : is_token_byte (get_or c.args.held.now c.args.at 0) ≡ true = search rules in
    kept part.Line part.Name _ _ _ _ c.requires.within refl (λ bytes. name_first bytes _ passes) c.requires.open c.in-Line.is

pub returns-in-Name : goal.returns-in-Name
returns-in-Name c =
    let passes : is_token_byte (get_or c.args.held.now c.args.at 0) ≡ true = search rules in
    kept part.Name part.Name _ _ _ _ c.requires.within refl (λ bytes. name_more bytes _ passes) c.requires.open c.in-Name.is

pub returns-in-Name-2 : goal.returns-in-Name-2
returns-in-Name-2 c = kept _ _ _ _ _ _ c.requires.within c.if-byte-eq58.true value_first c.requires.open c.in-Name.is

pub returns-in-Value : goal.returns-in-Value
returns-in-Value c =
    let passes : is_value_byte (get_or c.args.held.now c.args.at 0) ≡ true = search rules in
    kept part.Value part.Value _ _ _ _ c.requires.within refl (λ bytes. value_more bytes _ passes) c.requires.open c.in-Value.is

pub returns-in-Value-2 : goal.returns-in-Value-2
returns-in-Value-2 c = kept _ _ _ _ _ _ c.requires.within c.if-byte-eq13-2.true value_return c.requires.open c.in-Value.is

pub returns-in-Value-3 : goal.returns-in-Value-3
returns-in-Value-3 c = kept _ _ _ _ _ _ c.requires.within c.if-byte-eq10-3.true value_feed c.requires.open c.in-Value.is

pub returns-in-ValueReturn : goal.returns-in-ValueReturn
returns-in-ValueReturn c = kept _ _ _ _ _ _ c.requires.within c.if-byte-eq10-4.true value_return_feed c.requires.open c.in-ValueReturn.is
