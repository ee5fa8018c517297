-- A head that is followed byte by byte: where it may go on, and that it isn't whole.
use Rattle.std.proofs.Common.{◌≡◌, ℕ, ◌+◌, ◌<◌, ◌≤◌, ◌-◌, Bool, true, false, List, [], ◌∷◌, ◌++◌, length, get_or, take, drop, refl, sym, ap, ◌∙◌, subst, arith, append_assoc, append-nil, length-append, length-drop, inl, inr}
use Rattle.std.specs.Prelude.{IsUtf8, Ok, IsTrue, nat_lt}
use Rattle.std.proofs.lemmas.Bool.Decides.{nat_tests}
use Rattle.httparse.specs.declared.Status.TheVariants.{Partial}
use Rattle.std.proofs.lemmas.List.{take_more, take_all, drop_all, length-take-le, length_push, drop-append-le, drop-take, take-append-le}
use Rattle.std.proofs.Math.Seq.{take-add}
use Rattle.std.proofs.lemmas.List.Elements.{All-nil, All-push}
use Rattle.httparse.specs.Grammar.{LineEnd, crlf, lf, Field, is_token_byte, is_uri_byte, is_value_byte, IsToken, AllPass, print_blank, print_end, print_version, HasNoRequest, MayBecomeRequest}
use Rattle.httparse.specs.Pieces.{Begins, NotYet, Completes, Stops, is_newline, Newline, BlankLines, Blank, Word, Method, Target, Text, FieldLine, FieldLines, BeginsLine, CompletesLine, RequestStart, MayBecomeRequestStart}
use Rattle.httparse.specs.Refusals.{RefusesRequest, RefusesLines}
use Rattle.httparse.proofs.RunLemmas.{run_unique, run_unstopped}
use Rattle.httparse.proofs.PieceLemmas.{NotYet_intro, Refutes_first, Refutes_next, Blank_deterministic, Method_deterministic, Name_deterministic, RequestStart_deterministic, space_ends_token, colon_ends_token, newline_not_stopped, Stops_token, Stops_value, FieldLines-append, FieldLines_push}
use Rattle.httparse.proofs.ReadLemmas.{Target_word, Blank_open, Blank_after, blank_more, BeginsLine_either, BeginsLine_open, FieldLine_row, FieldLine_done, Section_after}
use Rattle.httparse.proofs.OpenLemmas.{Completes_first, Completes_next, some_newline, some_text, Newline_after_cr, BlankLines_after, Word_cut, letter_is_token, FieldLine_of_row, Section_of_line, Section_after_lines, line_blank, line_method, ends_in_target}
use Rattle.httparse.proofs.RefusalLemmas.{request_cut_in_line, request_cut_in_section}
use Rattle.xa_http.specs.declared.open_head.HeadPart.{HeadPart}
use Rattle.xa_http.specs.declared.open_head.HeadPart.TheVariants as part
use Rattle.xa_http.specs.declared.open_head.OpenHead.{OpenHead}
use Rattle.xa_http.specs.Messages.{window, IsUnfinished}
use Rattle.xa_http.specs.parsing.OpenHead.{RequestLine, EndsInLine, IsNothing, IsOpenValue, IsVersionEnd, EndsIn, IsOpenHead}

-- no head is whole, and one may be
abbrev Opened : List ℕ → Type 0
Opened bytes = HasNoRequest bytes × MayBecomeRequest bytes

-- ---- so it is open

open_line : (bytes : List ℕ) → NotYet (Begins RequestStart) bytes → MayBecomeRequestStart bytes → Opened bytes
open_line bytes none may =
    let r : RefusesRequest {A = ℕ} bytes 0 (Ok Partial) = request_cut_in_line none may in (r.partial, r.unfinished)

open_section : (bytes middle line : List ℕ) (t : RequestLine) (fields : List Field) → RequestStart t bytes middle → FieldLines fields middle line
    → NotYet BeginsLine line → CompletesLine line → Opened bytes
open_section bytes middle line t fields start lines none may =
    let refused : RefusesLines {A = ℕ} middle 0 (Ok Partial) = record {
      partial = Section_after fields lines none;
      unfinished = Section_after_lines fields lines (Section_of_line may);
      invalid = tt;
      no_room = tt;
      too_many = λ is. absurd (cc);
    } in
    let r : RefusesRequest {A = ℕ} bytes 0 (Ok Partial) = request_cut_in_section t start refused in (r.partial, r.unfinished)

-- a text of passing bytes has no word, whose stop would follow
no_stop : (test : ℕ → Bool) (stop : ℕ) (bytes : List ℕ) → test stop ≡ false → AllPass test bytes → NotYet (Begins (Word test stop)) bytes
no_stop test stop bytes fails all = NotYet_intro λ h.
    run_unstopped test h.0 (stop ∷ h.1) (subst (AllPass test) h.2.2 all) fails

-- a token is followed by no line end
blank_before : (ends : List LineEnd) (token rest bytes : List ℕ) → IsToken token → bytes ≡ print_blank ends ++ (token ++ rest)
    → Blank ends bytes (token ++ rest)
blank_before ends token rest bytes is same = (same, Stops_token token rest is.0 is.1)

open_blank : (bytes : List ℕ) (ends : List LineEnd) → bytes ≡ print_blank ends → Opened bytes
open_blank bytes ends same =
    let all : bytes ≡ print_blank ends ++ [] = same ∙ sym (append-nil _) in
    let lines : Completes BlankLines bytes = record { more = []; tree = ends; reads = λ rest. ap (λ (l : List ℕ). l ++ rest) same } in
    open_line bytes (Refutes_first Blank _ (Blank_after ends all (Blank_open [] 0 (omega arith)))) (inl (line_blank lines))

-- a CR alone begins no blank lines
return_alone : NotYet (Begins Blank) (13 ∷ [])
return_alone = NotYet_intro λ h. go h.0 h.1 h.2
  where
    go : (ends : List LineEnd) (rest : List ℕ) → Blank ends (13 ∷ []) rest → ⊥
    go [] rest h = let fails : true ≡ false = subst (Stops is_newline) (sym h.0) h.1 in cc
    go (crlf ∷ ends) rest h = cc
    go (lf ∷ ends) rest h = let x = h.0 in cc

open_blank_return : (bytes : List ℕ) (ends : List LineEnd) → bytes ≡ print_blank ends ++ 13 ∷ [] → Opened bytes
open_blank_return bytes ends same =
    open_line bytes (Refutes_first Blank _ (Blank_after ends same return_alone)) (inl (line_blank (BlankLines_after ends same (Newline_after_cr refl))))

open_method : (bytes : List ℕ) (ends : List LineEnd) (method : List ℕ) → IsToken method → bytes ≡ print_blank ends ++ method → Opened bytes
open_method bytes ends method is same =
    let blank : Blank ends bytes method
    = subst (Blank ends bytes) (append-nil method) (blank_before ends method [] bytes is (same ∙ ap (λ (l : List ℕ). print_blank ends ++ l) (sym (append-nil method)))) in
    open_line bytes
    (Refutes_next _ Blank_deterministic {a = ends} blank (Refutes_first Method _ (no_stop is_token_byte 32 method space_ends_token is.1)))
    (inl (line_method ends blank (Word_cut is_token_byte 32 65 letter_is_token is.1)))

open_target : (bytes : List ℕ) (ends : List LineEnd) (method target : List ℕ) → IsToken method → AllPass is_uri_byte target
    → bytes ≡ print_blank ends ++ (method ++ 32 ∷ target) → Opened bytes
open_target bytes ends method target is all same =
    let blank = blank_before ends method (32 ∷ target) bytes is same in
    let word : Method method (method ++ 32 ∷ target) target = (is.0, is.1, refl) in
    open_line bytes
    (Refutes_next _ Blank_deterministic {a = ends} blank (Refutes_next _ Method_deterministic {a = method} word
    (Refutes_first Target _ (Target_word (no_stop is_uri_byte 32 target refl all)))))
    (inr (ends_in_target ends method target blank word all))

-- a token begins no line end
no_end : (name rest : List ℕ) → IsToken name → NotYet (Begins Newline) (name ++ rest)
no_end name rest is = NotYet_intro λ h. newline_not_stopped h.0 h.1 _ (sym h.2) (Stops_token name rest is.0 is.1)

open_name : (line : List ℕ) → IsToken line → NotYet BeginsLine line × CompletesLine line
open_name line is = (
  BeginsLine_either (subst (NotYet (Begins Newline)) (append-nil line) (no_end line [] is))
      (FieldLine_row (Refutes_first _ _ (no_stop is_token_byte 58 line colon_ends_token is.1))),
  inr (FieldLine_of_row (Completes_first (Word_cut is_token_byte 58 65 letter_is_token is.1) some_text)),
)

-- a line of a name and a text that goes on
open_text : (name text line : List ℕ) → IsToken name → line ≡ name ++ 58 ∷ text → NotYet (Begins Text) text → Completes Text text
    → NotYet BeginsLine line × CompletesLine line
open_text name text line is same none may =
    let word : Word is_token_byte 58 name line text = (is.0, is.1, same) in (
      BeginsLine_either (subst (NotYet (Begins Newline)) (sym same) (no_end name (58 ∷ text) is))
          (FieldLine_row (Refutes_next Text Name_deterministic {a = name} word none)),
      inr (FieldLine_of_row (Completes_next Name_deterministic {a = name} word may)),
    )

open_value : (raw : List ℕ) → AllPass is_value_byte raw → NotYet (Begins Text) raw × Completes Text raw
open_value raw all = (
  NotYet_intro λ h. run_unstopped is_value_byte h.0.0 (print_end h.0.1 ++ h.1) (subst (AllPass is_value_byte) h.2.1 all) (Stops_value h.0.1 h.1),
  record { more = 10 ∷ []; tree = (raw, lf); reads = λ rest. (all, refl) },
)

-- a CR alone is no line end
no_return : (end : LineEnd) (rest : List ℕ) → 13 ∷ [] ≡ print_end end ++ rest → ⊥
no_return crlf rest e = cc
no_return lf rest e = cc

open_value_return : (raw : List ℕ) → AllPass is_value_byte raw → NotYet (Begins Text) (raw ++ 13 ∷ []) × Completes Text (raw ++ 13 ∷ [])
open_value_return raw all = (
  NotYet_intro λ h. no_return h.0.1 h.1
      (run_unique is_value_byte raw h.0.0 (13 ∷ []) (print_end h.0.1 ++ h.1) all h.2.0 refl (Stops_value h.0.1 h.1) h.2.1).1,
  record { more = 10 ∷ []; tree = (raw, crlf); reads = λ rest. (all, append_assoc raw (13 ∷ []) (10 ∷ rest)) },
)

opened : (p : HeadPart) (bytes : List ℕ) → EndsIn p bytes → Opened bytes
unfolding EndsIn
opened part.Blank bytes is = open_blank bytes is.0 is.1
opened part.BlankReturn bytes is = open_blank_return bytes is.0 is.1
opened part.Method bytes is = open_method bytes is.0 is.1 is.2 is.3
opened (part.Target start) bytes is = open_target bytes is.0 is.1 is.2 is.3 is.4 is.5
opened part.Line bytes is =
    let line : List ℕ = is.3 in
    let none : NotYet BeginsLine line = subst (NotYet BeginsLine) (sym is.6) (BeginsLine_open [] 0 (omega arith)) in
    let may : CompletesLine line = subst CompletesLine (sym is.6) (inl some_newline) in
    open_section bytes is.2 line is.0 is.1 is.4 is.5 none may
opened part.Name bytes is =
    let line = open_name is.3 is.6 in open_section bytes is.2 is.3 is.0 is.1 is.4 is.5 line.0 line.1
opened part.Value bytes is =
    let v = is.6 in
    let text = open_value v.1 v.3 in
    let line = open_text v.0 v.1 is.3 v.2 (v.4 ∙ ap (λ (l : List ℕ). v.0 ++ 58 ∷ l) (append-nil v.1)) text.0 text.1 in
    open_section bytes is.2 is.3 is.0 is.1 is.4 is.5 line.0 line.1
opened part.ValueReturn bytes is =
    let v = is.6 in
    let text = open_value_return v.1 v.3 in
    let line = open_text v.0 (v.1 ++ 13 ∷ []) is.3 v.2 v.4 text.0 text.1 in
    open_section bytes is.2 is.3 is.0 is.1 is.4 is.5 line.0 line.1

-- if all that is held was followed, and it is less than a head may have, more bytes may make a message of it
pub unfinished : (held : List ℕ) (head : OpenHead) → IsOpenHead held head → length held ≤ head.len → IsTrue (nat_lt (length held) 16_384) → IsUnfinished held
unfolding IsUnfinished window
unfinished held head is all less =
    let short : length held < 16_384 = grind (arith, nat_tests) in
    let whole : take head.len held ≡ held = take_all head.len held (omega (arith, all)) in
    let front : take 16_384 held ≡ held = take_all 16_384 held (omega (arith, short)) in
    inl (subst Opened (whole ∙ sym front) (opened head.part (take head.len held) is.1), short)

-- ---- the next byte

-- the front with one byte more
pub one_more : (P : List ℕ → Type 0) (held : List ℕ) (at b : ℕ) → at < length held → get_or held at 0 ≡ b → P (take at held ++ b ∷ []) → P (take (at + 1) held)
one_more P held at b within is p = subst P (sym (take_more held at 0 within ∙ ap (λ (c : ℕ). take at held ++ c ∷ []) is)) p

token_more : (token : List ℕ) (b : ℕ) → IsToken token → is_token_byte b ≡ true → IsToken (token ++ b ∷ [])
token_more token b is passes = (omega (arith, length_push token b), All-push (λ v. is_token_byte v ≡ true) token b is.1 passes)

token_first : (b : ℕ) → is_token_byte b ≡ true → IsToken (b ∷ [])
token_first b passes = (omega arith, All-push (λ v. is_token_byte v ≡ true) [] b (All-nil _) passes)

pub blank_feed : (bytes : List ℕ) → EndsIn part.Blank bytes → EndsIn part.Blank (bytes ++ 10 ∷ [])
unfolding EndsIn
blank_feed bytes is =
    (is.0 ++ lf ∷ [], blank_more is.0 lf (bytes ++ 10 ∷ []) (10 ∷ []) [] (ap (λ (l : List ℕ). l ++ 10 ∷ []) is.1) refl ∙ append-nil _)

pub blank_return : (bytes : List ℕ) → EndsIn part.Blank bytes → EndsIn part.BlankReturn (bytes ++ 13 ∷ [])
unfolding EndsIn
blank_return bytes is = (is.0, ap (λ (l : List ℕ). l ++ 13 ∷ []) is.1)

pub blank_return_feed : (bytes : List ℕ) → EndsIn part.BlankReturn bytes → EndsIn part.Blank (bytes ++ 10 ∷ [])
unfolding EndsIn
blank_return_feed bytes is = (
  is.0 ++ crlf ∷ [],
  blank_more is.0 crlf (bytes ++ 10 ∷ []) (13 ∷ 10 ∷ []) []
      (ap (λ (l : List ℕ). l ++ 10 ∷ []) is.1 ∙ append_assoc (print_blank is.0) (13 ∷ []) (10 ∷ [])) refl ∙ append-nil _,
)

pub method_first : (bytes : List ℕ) (b : ℕ) → is_token_byte b ≡ true → EndsIn part.Blank bytes → EndsIn part.Method (bytes ++ b ∷ [])
unfolding EndsIn
method_first bytes b passes is = (is.0, b ∷ [], token_first b passes, ap (λ (l : List ℕ). l ++ b ∷ []) is.1)

pub method_more : (bytes : List ℕ) (b : ℕ) → is_token_byte b ≡ true → EndsIn part.Method bytes → EndsIn part.Method (bytes ++ b ∷ [])
unfolding EndsIn
method_more bytes b passes is =
    (is.0, is.1 ++ b ∷ [], token_more is.1 b is.2 passes, ap (λ (l : List ℕ). l ++ b ∷ []) is.3 ∙ append_assoc (print_blank is.0) is.1 (b ∷ []))

pub target_first : (bytes : List ℕ) (start : ℕ) → start ≡ length bytes + 1 → EndsIn part.Method bytes → EndsIn (part.Target start) (bytes ++ 32 ∷ [])
unfolding EndsIn
target_first bytes start at is = (
  is.0,
  is.1,
  [],
  is.2,
  All-nil _,
  ap (λ (l : List ℕ). l ++ 32 ∷ []) is.3 ∙ append_assoc (print_blank is.0) is.1 (32 ∷ []),
  omega (arith, length_push bytes 32, at),
  sym (drop_all start (bytes ++ 32 ∷ []) (omega (arith, length_push bytes 32, at))),
)

pub target_more : (bytes : List ℕ) (start b : ℕ) → is_uri_byte b ≡ true → EndsIn (part.Target start) bytes → EndsIn (part.Target start) (bytes ++ b ∷ [])
unfolding EndsIn
target_more bytes start b passes is = (
  is.0,
  is.1,
  is.2 ++ b ∷ [],
  is.3,
  All-push (λ v. is_uri_byte v ≡ true) is.2 b is.4 passes,
  ap (λ (l : List ℕ). l ++ b ∷ []) is.5 ∙ append_assoc (print_blank is.0) (is.1 ++ 32 ∷ is.2) (b ∷ [])
      ∙ ap (λ (l : List ℕ). print_blank is.0 ++ l) (append_assoc is.1 (32 ∷ is.2) (b ∷ [])),
  omega (arith, length_push bytes b, is.6),
  ap (λ (l : List ℕ). l ++ b ∷ []) is.7 ∙ sym (drop-append-le start bytes (b ∷ []) is.6),
)

-- a byte comes to the line
line_more : (P Q : List ℕ → Type 0) (bytes : List ℕ) (b : ℕ) → ((line : List ℕ) → P line → Q (line ++ b ∷ [])) → EndsInLine P bytes → EndsInLine Q (bytes ++ b ∷ [])
line_more P Q bytes b step is = (
  is.0,
  is.1,
  is.2 ++ b ∷ [],
  is.3 ++ b ∷ [],
  RequestStart_deterministic.append is.0 bytes is.2 (b ∷ []) is.4,
  FieldLines-append is.1 is.2 is.3 (b ∷ []) is.5,
  step is.3 is.6,
)

pub name_first : (bytes : List ℕ) (b : ℕ) → is_token_byte b ≡ true → EndsIn part.Line bytes → EndsIn part.Name (bytes ++ b ∷ [])
unfolding EndsIn
name_first bytes b passes is =
    line_more IsNothing IsToken bytes b (λ line none. subst IsToken (ap (λ (l : List ℕ). l ++ b ∷ []) (sym none)) (token_first b passes)) is

pub name_more : (bytes : List ℕ) (b : ℕ) → is_token_byte b ≡ true → EndsIn part.Name bytes → EndsIn part.Name (bytes ++ b ∷ [])
unfolding EndsIn
name_more bytes b passes is = line_more IsToken IsToken bytes b (λ line token. token_more line b token passes) is

pub value_first : (bytes : List ℕ) → EndsIn part.Name bytes → EndsIn part.Value (bytes ++ 58 ∷ [])
unfolding EndsIn
value_first bytes is = line_more IsToken (IsOpenValue []) bytes 58 (λ line token. (line, [], token, All-nil _, refl)) is

-- a byte comes to the value
value_with : (last next : List ℕ) (name raw line : List ℕ) (b : ℕ) → line ≡ name ++ 58 ∷ (raw ++ last) → last ++ b ∷ [] ≡ next → line ++ b ∷ [] ≡ name ++ 58 ∷ (raw ++ next)
value_with last next name raw line b same e =
    ap (λ (l : List ℕ). l ++ b ∷ []) same ∙ append_assoc name (58 ∷ (raw ++ last)) (b ∷ [])
    ∙ ap (λ (l : List ℕ). name ++ 58 ∷ l) (append_assoc raw last (b ∷ []) ∙ ap (λ (l : List ℕ). raw ++ l) e)

pub value_more : (bytes : List ℕ) (b : ℕ) → is_value_byte b ≡ true → EndsIn part.Value bytes → EndsIn part.Value (bytes ++ b ∷ [])
unfolding EndsIn
value_more bytes b passes is =
    line_more (IsOpenValue []) (IsOpenValue []) bytes b
    (λ line v. (
      v.0,
      v.1 ++ b ∷ [],
      v.2,
      All-push (λ c. is_value_byte c ≡ true) v.1 b v.3 passes,
      value_with [] (b ∷ []) v.0 v.1 line b v.4 refl ∙ ap (λ (l : List ℕ). v.0 ++ 58 ∷ l) (sym (append-nil (v.1 ++ b ∷ []))),
    )) is

pub value_return : (bytes : List ℕ) → EndsIn part.Value bytes → EndsIn part.ValueReturn (bytes ++ 13 ∷ [])
unfolding EndsIn
value_return bytes is =
    line_more (IsOpenValue []) (IsOpenValue (13 ∷ [])) bytes 13
    (λ line v. (v.0, v.1, v.2, v.3, value_with [] (13 ∷ []) v.0 v.1 line 13 v.4 refl)) is

-- a line end comes to a field line
line_end : (last : List ℕ) (b : ℕ) (end : LineEnd) (bytes : List ℕ) → last ++ b ∷ [] ≡ print_end end → EndsInLine (IsOpenValue last) bytes → EndsInLine IsNothing (bytes ++ b ∷ [])
line_end last b end bytes is_end is =
    let v = is.6 in
    let f : Field = record { name = v.0; raw = v.1; end = end } in
    let whole : is.3 ++ b ∷ [] ≡ v.0 ++ 58 ∷ (v.1 ++ (print_end end ++ [])) = value_with last (print_end end ++ []) v.0 v.1 is.3 b v.4 (is_end ∙ sym (append-nil _)) in
    let line : FieldLine f (is.3 ++ b ∷ []) []
    = FieldLine_done v.0 v.1 end (is.3 ++ b ∷ []) (v.1 ++ (print_end end ++ [])) [] (v.2.0, v.2.1, whole) (v.3, refl) in (
      is.0,
      is.1 ++ f ∷ [],
      is.2 ++ b ∷ [],
      [],
      RequestStart_deterministic.append is.0 bytes is.2 (b ∷ []) is.4,
      FieldLines_push is.1 f (is.2 ++ b ∷ []) (is.3 ++ b ∷ []) [] (FieldLines-append is.1 is.2 is.3 (b ∷ []) is.5) line,
      refl,
    )

pub value_feed : (bytes : List ℕ) → EndsIn part.Value bytes → EndsIn part.Line (bytes ++ 10 ∷ [])
unfolding EndsIn
value_feed bytes is = line_end [] 10 lf bytes refl is

pub value_return_feed : (bytes : List ℕ) → EndsIn part.ValueReturn bytes → EndsIn part.Line (bytes ++ 10 ∷ [])
unfolding EndsIn
value_return_feed bytes is = line_end (13 ∷ []) 10 crlf bytes refl is

-- a byte of that value comes to bytes that end in that part
pub kept : (p q now : HeadPart) (held : List ℕ) (at b : ℕ) → at < length held → get_or held at 0 ≡ b
    → ((bytes : List ℕ) → EndsIn p bytes → EndsIn q (bytes ++ b ∷ [])) → EndsIn now (take at held) → now ≡ p → EndsIn q (take (at + 1) held)
kept p q now held at b within is step ends same =
    one_more (EndsIn q) held at b within is (step (take at held) (subst (λ (r : HeadPart). EndsIn r (take at held)) same ends))

pub target_begun : (now : HeadPart) (held : List ℕ) (at : ℕ) → at < length held → get_or held at 0 ≡ 32
    → EndsIn now (take at held) → now ≡ part.Method → EndsIn (part.Target (at + 1)) (take (at + 1) held)
target_begun now held at within is ends same =
    let count : length (take at held) ≡ at = length-take-le at held (omega (arith, within)) in
    one_more (EndsIn (part.Target (at + 1))) held at 32 within is
    (target_first (take at held) (at + 1) (omega (arith, count)) (subst (λ (r : HeadPart). EndsIn r (take at held)) same ends))

-- ---- the end of the request line

pub target_within : (held : List ℕ) (start at : ℕ) → at ≤ length held → EndsIn (part.Target start) (take at held) → start ≤ at
unfolding EndsIn
target_within held start at within is = omega (arith, is.6, length-take-le at held within)

pub line_first : (held : List ℕ) (start at n : ℕ) → at ≤ length held → EndsIn (part.Target start) (take at held)
    → IsVersionEnd (take n (drop at held)) → n ≤ length (drop at held)
    → 0 < length (take (at - start) (drop start held)) → IsUtf8 (take (at - start) (drop start held))
    → IsOpenHead held (record { len = at + n; part = part.Line })
unfolding EndsIn
line_first held start at n within is version fits some text =
    let minor = version.0 in
    let end = version.1 in
    let last = print_version minor ++ print_end end in
    let method = is.1 in
    let target = is.2 in
    let from : at ≡ start + (at - start) = omega (arith, is.6, length-take-le at held within) in
    let same : target ≡ take (at - start) (drop start held)
    = is.7 ∙ ap (λ (k : ℕ). drop start (take k held)) from ∙ drop-take start (at - start) held in
    let bytes : take (at + n) held ≡ print_blank is.0 ++ (method ++ 32 ∷ (target ++ 32 ∷ last))
    = take-add at n held ∙ ap (λ (l : List ℕ). take at held ++ l) version.3
    ∙ ap (λ (l : List ℕ). l ++ 32 ∷ last) is.5 ∙ append_assoc (print_blank is.0) (method ++ 32 ∷ target) (32 ∷ last)
    ∙ ap (λ (l : List ℕ). print_blank is.0 ++ l) (append_assoc method (32 ∷ target) (32 ∷ last)) in
    let blank = blank_before is.0 method (32 ∷ (target ++ 32 ∷ last)) (take (at + n) held) is.3 bytes in
    let is_text : IsUtf8 target = subst IsUtf8 (sym same) text in
    let is_some : 0 < length target = subst (λ (l : List ℕ). 0 < length l) (sym same) some in (
      omega (arith, within, fits, length-drop at held),
      (
        (is.0, (method, (target, (minor, end)))),
        [],
        [],
        [],
        (_, blank, (_, (is.3.0, is.3.1, refl), (_, ((is_some, is.4, refl), is_text), (_, (version.2, refl), sym (append-nil (print_end end)))))),
        (All-nil _, refl),
        refl,
      ),
    )

-- ---- in a session

-- nothing was followed yet
pub none_followed : (held : List ℕ) (head : OpenHead) → head ≡ record { len = 0; part = part.Blank } → IsOpenHead held head
unfolding EndsIn
none_followed held head is = subst (IsOpenHead held) (sym is) (omega arith, ([], refl))

-- bytes that follow leave what was followed
pub follows_on : (held more : List ℕ) (head : OpenHead) → IsOpenHead held head → IsOpenHead (held ++ more) head
follows_on held more head is = (
  omega (arith, is.0, length-append held more),
  subst (EndsIn head.part) (sym (take-append-le head.len held more is.0)) is.1,
)
