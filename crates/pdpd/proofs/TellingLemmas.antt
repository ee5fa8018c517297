-- What a connection is told, one answer after another, and the replies, written one after another.
use Rattle.std.proofs.Common.{◌≡◌, ℕ, ◌<◌, ◌+◌, arith, Bool, true, false, not, List, [], ◌∷◌, ◌++◌, map, length, refl, sym, ap, subst, ◌∙◌, Option, Some, None, Ok, inl, inr, IsTrue, ◌⊎◌}
use Rattle.std.specs.Prelude.{ℤ}
use Rattle.std.specs.Io.KnownBytes.{Appends}
use Rattle.std.proofs.lemmas.Bool.{false≢true}
use Rattle.std.proofs.lemmas.List.{map-append, append-nil, append_assoc}
use Rattle.std.proofs.lemmas.List.Concat.{flat_map-append}
use Rattle.xa_http.specs.declared.message.Message.{Message}
use Rattle.xa_http.specs.declared.session.Next.TheVariants as next
use Rattle.xa_http.specs.declared.fault.SessionFault.{SessionFault}
use Rattle.xa_http.specs.Messages.{Cuts, IsNext}
use Rattle.xa_http.specs.Stream.{Stream, fed}
use Rattle.xa_http.proofs.LawLemmas.{feeds_on}
use Rattle.xa_http.proofs.SizeLemmas.{first_shrinks}
use Rattle.xa_records.specs.Keeper.{Custody}
use Rattle.xa_server.specs.Alone.{Event}
use Rattle.xa_server.specs.Connection.{AnswersNext, ServesNext, all_replies, fault_replies, reply_of}
use Rattle.xa_server.specs.declared.connection.Answered.{Answered}
use Rattle.xa_server.specs.declared.connection.Answered.TheVariants as answered
use Rattle.xa_server.specs.declared.replies.Reply.{Reply}
use Rattle.xa_server.specs.ErrorCode.{code_of_session_fault, error_reply}
use Rattle.xa_server.specs.Replies.{bytes_of}
use Rattle.xa_server.specs.Interruption.{ServesMessage}
use Rattle.xa_server.specs.Serving.{AreServed}
use Rattle.xa_server.specs.World.{ServerModel}
use Rattle.std.proofs.KnownBytes.{Appends-nil, Appends-trans}
use Rattle.xa_server.proofs.ConnectionLemmas.{cuts_trans}
use Rattle.pdpd.specs.declared.replay.heading.Heading.{Heading}
use Rattle.pdpd.specs.Entry.{events_at, reply_entries, reply_entry}
use Rattle.pdpd.specs.Replay.{IsSomeRun}
use Rattle.pdpd.specs.running.Telling.{AreTold, IsToldAndWritten, LeavesOff, Stands}
use Rattle.pdpd.proofs.RunLemmas.{none_run, message_run, run_on}

-- ---- what is told

-- if the stream goes on, it has not ended by a fault
no_fault : (fault : Option SessionFault) (last after : Stream) → LeavesOff fault last after → after.ended ≡ false → (fault ≡ None) × (after ≡ last)
no_fault None last after ends goes_on = (refl, ends)
no_fault (Some fault) last after ends goes_on = absurd (false≢true (sym goes_on ∙ ap (λ (s : Stream). s.ended) ends.2))

replies_after : (run later : List Reply) (fault : Option SessionFault) → all_replies run None ++ all_replies later fault ≡ all_replies (run ++ later) fault
replies_after run later fault =
    ap (λ (bs : List (List ℕ)). bs ++ all_replies later fault) (append-nil (map bytes_of run))
    ∙ sym (append_assoc (map bytes_of run) (map bytes_of later) (fault_replies fault))
    ∙ ap (λ (bs : List (List ℕ)). bs ++ fault_replies fault) (sym (map-append bytes_of run later))

-- the bytes of an answer, if it has a reply
abbrev pub bytes_in : Answered → List (List ℕ)
bytes_in (answered.Reply answer) = bytes_of answer.reply ∷ []
bytes_in answered.Waits = []
bytes_in answered.Ended = []

module _ {R : Type 0} (custody : R → Custody) (is_open : (s : R) → (custody s).sound → IsTrue (custody s).is_open) where
  -- nothing
  pub told_none : (moment : ℤ) (a b : ServerModel R) (s t : Stream) → b ≡ a → t ≡ s → AreTold custody moment a b s t []
  told_none moment a b s t same kept =
      record { messages = []; fault = None; run = []; last = s; cuts = refl; are_one = none_run custody is_open a b same; ends = kept; are_all = refl }

  -- what is told after this
  pub told_more : (moment : ℤ) (a b c : ServerModel R) (s t u : Stream) (told later : List (List ℕ)) → (first : AreTold custody moment a b s t told) → t.ended ≡ false
      → AreTold custody moment b c t u later → AreTold custody moment a c s u (told ++ later)
  told_more moment a b c s t u told later first goes_on second =
      let none = no_fault first.fault first.last t first.ends goes_on in
      let at : Message → Event = λ m. (moment, m) in
      let here : Cuts s first.messages t = subst (λ (v : Stream). Cuts s first.messages v) (sym none.1) first.cuts in
      let all : told ≡ all_replies first.run None = first.are_all ∙ ap (all_replies first.run) none.0 in
      record {
        messages = first.messages ++ second.messages;
        fault = second.fault;
        run = first.run ++ second.run;
        last = second.last;
        cuts = cuts_trans s t second.last first.messages second.messages here second.cuts;
        are_one =
            subst (λ (es : List Event). AreServed custody a c es (first.run ++ second.run)) (sym (map-append at first.messages second.messages))
            (run_on custody is_open a b c (events_at moment first.messages) (events_at moment second.messages) first.run second.run first.are_one second.are_one);
        ends = second.ends;
        are_all =
            ap (λ (rs : List (List ℕ)). rs ++ later) all
            ∙ ap (λ (rs : List (List ℕ)). all_replies first.run None ++ rs) second.are_all
            ∙ replies_after first.run second.run second.fault;
      }

  -- bytes that come later leave it
  pub told_fed : (moment : ℤ) (a b : ServerModel R) (s t : Stream) (piece : List ℕ) (told : List (List ℕ)) → AreTold custody moment a b s t told → t.ended ≡ false
      → AreTold custody moment a b (fed s piece) (fed t piece) told
  told_fed moment a b s t piece told first goes_on =
      let none = no_fault first.fault first.last t first.ends goes_on in
      let here : Cuts s first.messages t = subst (λ (v : Stream). Cuts s first.messages v) (sym none.1) first.cuts in
      record {
        messages = first.messages;
        fault = None;
        run = first.run;
        last = fed t piece;
        cuts = feeds_on s first.messages t piece here;
        are_one = first.are_one;
        ends = refl;
        are_all = first.are_all ∙ ap (all_replies first.run) none.0;
      }

  -- ---- one answer

  one_fault : (moment : ℤ) (a b : ServerModel R) (s t : Stream) (fault : SessionFault) → IsNext s (next.Fault fault) t → b ≡ a
      → AreTold custody moment a b s t (error_reply (code_of_session_fault fault) ∷ [])
  one_fault moment a b s t fault is same = record {
    messages = [];
    fault = Some fault;
    run = [];
    last = s;
    cuts = refl;
    are_one = none_run custody is_open a b same;
    ends = is;
    are_all = refl;
  }

  -- a connection is told it
  pub told_next : (moment : ℤ) (a b : ServerModel R) (s t : Stream) (given : Answered) → AnswersNext custody moment a s (Ok given) b t
      → AreTold custody moment a b s t (bytes_in given)
  told_next moment a b s t given (next.Message message, is, (reply, by), serves) =
      let served : ServesMessage custody a b (moment, message) reply
      = subst (λ (x : Answered). ServesNext custody moment a (Some (next.Message message)) (reply_of x) b) by serves in
      subst (λ (bs : List (List ℕ)). AreTold custody moment a b s t bs) (sym (ap bytes_in by))
      (record {
        messages = message ∷ [];
        fault = None;
        run = reply ∷ [];
        last = t;
        cuts = (t, is, refl);
        are_one = message_run custody is_open moment message reply a b served;
        ends = refl;
        are_all = refl;
      })
  told_next moment a b s t given (next.Fault fault, is, by, same) =
      subst (λ (bs : List (List ℕ)). AreTold custody moment a b s t bs) (sym (ap bytes_in by)) (one_fault moment a b s t fault is same)
  told_next moment a b s t given (next.More, is, by, same) =
      subst (λ (bs : List (List ℕ)). AreTold custody moment a b s t bs) (sym (ap bytes_in by)) (told_none moment a b s t same is.2)
  told_next moment a b s t given (next.Ended, is, by, same) =
      subst (λ (bs : List (List ℕ)). AreTold custody moment a b s t bs) (sym (ap bytes_in by)) (told_none moment a b s t same is.1)

  -- whether its reply is written or not
  pub some_next : (moment : ℤ) (a b : ServerModel R) (s t : Stream) (given : Answered) → AnswersNext custody moment a s (Ok given) b t → IsSomeRun custody a b
  unfolding IsSomeRun
  some_next moment a b s t given answers =
      let is = told_next moment a b s t given answers in
      (events_at moment is.messages, is.run, is.are_one)

-- whether the session goes on after it
abbrev pub goes_on_after : Answered → Bool
goes_on_after (answered.Reply answer) = not answer.last
goes_on_after answered.Waits = false
goes_on_after answered.Ended = false

goes_by : (last : Bool) (t : Stream) → t.ended ≡ last → Stands (not last) t
unfolding Stands
goes_by true t ended = inr ended
goes_by false t ended = ended

stands_over : (t : Stream) → t.ended ≡ true → Stands false t
unfolding Stands
stands_over t over = inr over

stands_waiting : (s t : Stream) → IsNext s next.More t → Stands false t
unfolding Stands
stands_waiting s t is = inl (subst (λ (u : Stream). IsNext u next.More u) (sym is.2) (is.0, is.1, refl))

pub stands_next : {R : Type 0} (custody : R → Custody) (moment : ℤ) (a b : ServerModel R) (s t : Stream) (given : Answered)
    → AnswersNext custody moment a s (Ok given) b t → Stands (goes_on_after given) t
stands_next custody moment a b s t given (next.Message message, is, (reply, by), serves) =
    subst (λ (x : Bool). Stands x t) (sym (ap goes_on_after by)) (goes_by t.ended t refl)
stands_next custody moment a b s t given (next.Fault fault, is, by, serves) =
    subst (λ (x : Bool). Stands x t) (sym (ap goes_on_after by)) (stands_over t (ap (λ (u : Stream). u.ended) is.2))
stands_next custody moment a b s t given (next.More, is, by, serves) =
    subst (λ (x : Bool). Stands x t) (sym (ap goes_on_after by)) (stands_waiting s t is)
stands_next custody moment a b s t given (next.Ended, is, by, serves) =
    subst (λ (x : Bool). Stands x t) (sym (ap goes_on_after by)) (stands_over t (ap (λ (u : Stream). u.ended) is.1 ∙ is.0))

pub stands_by : {R : Type 0} (custody : R → Custody) (moment : ℤ) (a b : ServerModel R) (s t : Stream) (given : Answered) (goes : Bool)
    → goes_on_after given ≡ goes → AnswersNext custody moment a s (Ok given) b t → Stands goes t
stands_by custody moment a b s t given goes same answers =
    subst (λ (x : Bool). Stands x t) same (stands_next custody moment a b s t given answers)

-- a session that goes on hasn't ended
pub stands_on : (goes : Bool) (t : Stream) → goes ≡ true → Stands goes t → t.ended ≡ false
unfolding Stands
stands_on true t on stands = stands
stands_on false t on stands = absurd (false≢true on)

-- a reply after which it goes on leaves less
pub fewer_next : {R : Type 0} (custody : R → Custody) (moment : ℤ) (a b : ServerModel R) (s t : Stream) (given : Answered)
    → goes_on_after given ≡ true → AnswersNext custody moment a s (Ok given) b t → length t.held < length s.held
fewer_next custody moment a b s t given on (next.Message message, is, by, serves) = omega (arith, first_shrinks s message t is)
fewer_next custody moment a b s t given on (next.Fault fault, is, by, serves) = absurd (false≢true (sym (ap goes_on_after by) ∙ on))
fewer_next custody moment a b s t given on (next.More, is, by, serves) = absurd (false≢true (sym (ap goes_on_after by) ∙ on))
fewer_next custody moment a b s t given on (next.Ended, is, by, serves) = absurd (false≢true (sym (ap goes_on_after by) ∙ on))

-- an answer without a reply
pub no_bytes : (given : Answered) → (given ≡ answered.Waits) ⊎ (given ≡ answered.Ended) → bytes_in given ≡ []
no_bytes given (inl is) = ap bytes_in is
no_bytes given (inr is) = ap bytes_in is

pub goes_no_more : (given : Answered) → (given ≡ answered.Waits) ⊎ (given ≡ answered.Ended) → goes_on_after given ≡ false
goes_no_more given (inl is) = ap goes_on_after is
goes_no_more given (inr is) = ap goes_on_after is

-- ---- what is written

pub entries_trans : (connection : ℕ) (first later : List (List ℕ))
    → reply_entries connection (first ++ later) ≡ reply_entries connection first ++ reply_entries connection later
entries_trans connection first later = flat_map-append (reply_entry connection) first later

module _ {R : Type 0} (custody : R → Custody) (is_open : (s : R) → (custody s).sound → IsTrue (custody s).is_open) where
  -- nothing was answered
  pub told_idle : (heading : Heading) (a b : ServerModel R) (s t : Stream) (before : Option (List ℕ)) → b ≡ a → t ≡ s → IsToldAndWritten custody heading a b s t before before
  unfolding IsToldAndWritten
  told_idle heading a b s t before same kept = ([], told_none custody is_open heading.moment a b s t same kept, Appends-nil before)

  pub told_without : (heading : Heading) (a b : ServerModel R) (s t : Stream) (told : List (List ℕ)) (before : Option (List ℕ))
      → AreTold custody heading.moment a b s t told → told ≡ [] → IsToldAndWritten custody heading a b s t before before
  unfolding IsToldAndWritten
  told_without heading a b s t told before is none =
      ([], subst (λ (rs : List (List ℕ)). AreTold custody heading.moment a b s t rs) none is, Appends-nil before)

  -- a reply was written
  pub told_reply : (heading : Heading) (a b : ServerModel R) (s t : Stream) (told : List (List ℕ)) (reply : Reply) (bytes : List ℕ) (before now : Option (List ℕ))
      → AreTold custody heading.moment a b s t told → told ≡ bytes_of reply ∷ [] → bytes ≡ bytes_of reply
      → Appends before now (reply_entry heading.connection bytes) → IsToldAndWritten custody heading a b s t before now
  unfolding IsToldAndWritten
  told_reply heading a b s t told reply bytes before now is one same wrote = (
    bytes_of reply ∷ [],
    subst (λ (rs : List (List ℕ)). AreTold custody heading.moment a b s t rs) one is,
    subst (λ (bs : List ℕ). Appends before now bs) (ap (reply_entry heading.connection) same ∙ sym (append-nil (reply_entry heading.connection (bytes_of reply)))) wrote,
  )

  -- and others after it
  pub told_on : (heading : Heading) (a b c : ServerModel R) (s t u : Stream) (x y z : Option (List ℕ)) → IsToldAndWritten custody heading a b s t x y → t.ended ≡ false
      → IsToldAndWritten custody heading b c t u y z → IsToldAndWritten custody heading a c s u x z
  unfolding IsToldAndWritten
  told_on heading a b c s t u x y z (first, told, wrote) goes_on (later, more, written) = (
    first ++ later,
    told_more custody is_open heading.moment a b c s t u first later told goes_on more,
    subst (λ (bs : List ℕ). Appends x z bs) (sym (entries_trans heading.connection first later)) (Appends-trans x y z _ _ wrote written),
  )

  -- and after bytes that have come
  pub told_fed_on : (heading : Heading) (a b c : ServerModel R) (s t u : Stream) (piece : List ℕ) (x y z : Option (List ℕ)) → IsToldAndWritten custody heading a b s t x y
      → t.ended ≡ false → IsToldAndWritten custody heading b c (fed t piece) u y z → IsToldAndWritten custody heading a c (fed s piece) u x z
  unfolding IsToldAndWritten
  told_fed_on heading a b c s t u piece x y z (first, told, wrote) goes_on (later, more, written) = (
    first ++ later,
    told_more custody is_open heading.moment a b c (fed s piece) (fed t piece) u first later (told_fed custody is_open heading.moment a b s t piece first told goes_on) goes_on more,
    subst (λ (bs : List ℕ). Appends x z bs) (sym (entries_trans heading.connection first later)) (Appends-trans x y z _ _ wrote written),
  )
