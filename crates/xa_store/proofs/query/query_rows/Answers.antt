use Rattle.std.proofs.Common.{◌≡◌, ◌∙◌, Result, Ok, Err, OnOk, IfOk, IfErr, MatchResult, IsErrAnd, is_ok, sym, subst, true≢false, rules}
use Rattle.xa_store.proofs.Common.{Error, Failure}
use Rattle.sqlite.specs.Values.{bound}
use Rattle.sqlite.specs.declared.error.Error.TheVariants.{SqliteFailure}
use Rattle.sqlite.specs.declared.error.ErrorCode.TheVariants.{OutOfMemory}
use Rattle.xa_records.specs.declared.refusal.Failure.TheVariants.{Memory}
use Rattle.xa_store.specs.keeping.Quiet.{FailsToQueryOver}
use Rattle.xa_store.proofs.query.query_rows.Goals as goal

-- an answer whose error is told otherwise
same_ok : {X E D : Type 0} (P : Type 0) (a : Result X E) (b : Result X D) → is_ok b ≡ is_ok a → OnOk a P → OnOk b P
same_ok P (Ok x) (Ok y) is p = p
same_ok P (Ok x) (Err d) is p = tt
same_ok P (Err e) (Ok y) is p = absurd (true≢false is)
same_ok P (Err e) (Err d) is p = tt

same_rows : {X E D : Type 0} (P : X → Type 0) (Q : E → Type 0) (a : Result X E) (b : Result X D) → MatchResult a (λ x. b ≡ Ok x) Q → is_ok b ≡ is_ok a → IfOk a P → IfOk b P
same_rows P Q (Ok x) b h is p = subst (λ r. IfOk r P) (sym h) p
same_rows P Q (Err e) (Ok y) h is p = absurd (true≢false is)
same_rows P Q (Err e) (Err d) h is p = tt

memory_told : {X : Type 0} (P : Error → Failure → Type 0) (R : Error → Type 0) → ((e : Error) (d : Failure) → P e d → d ≡ Memory → e ≡ SqliteFailure OutOfMemory) → (a : Result X Error) (b : Result X Failure)
    → MatchResult a (λ x. b ≡ Ok x) (λ e. IsErrAnd b (P e)) → IfErr a R → b ≡ Err Memory → R (SqliteFailure OutOfMemory)
memory_told P R told (Ok x) b h r is = absurd (let both = sym h ∙ is in cc)
memory_told P R told (Err e) (Ok y) h r is = absurd h
memory_told P R told (Err e) (Err d) h r is = subst R (told e d h (let same = is in cc)) r

pub returns-clause-only_reads : goal.returns-clause-only_reads
returns-clause-only_reads g c = record {
  quiet = c.rows_shown.ensures.only_reads.quiet;
  opens = λ clean. same_ok _ c.rows_shown.result c.map_err.result c.map_err.ensures.variant (c.rows_shown.ensures.only_reads.opens clean);
}

pub returns-clause-wants : goal.returns-clause-wants
returns-clause-wants g c clean memory =
    memory_told _ (FailsToQueryOver g.S.Store c.args.sql.now (bound c.args.given.now) c.args.conn.now c.rows_shown.new.conn) (λ e d h is. search rules) c.rows_shown.result c.map_err.result c.map_err.ensures.cases
    (c.rows_shown.ensures.fails clean) memory

pub returns-clause-shows : goal.returns-clause-shows
returns-clause-shows g c clean = same_rows _ _ c.rows_shown.result c.map_err.result c.map_err.ensures.cases c.map_err.ensures.variant (c.rows_shown.ensures.shows clean)
