-- Calls that only read, one after another.
use Rattle.std.proofs.Common.{◌≡◌, IsTrue, sym, ap, ◌∙◌, subst}
use Rattle.xa_store.proofs.Common.{Database, Schema, State, HasCleanDisk, AreDocuments, HaveWrittenRows, AreNumbered, HaveSoundColumns, IsOurDatabase, IsKeepersStore, Rests, RestsIn, SameNow, rows_of}
use Rattle.xa_store.specs.keeping.Quiet.{Quiet}

pub rests_after : {under : Schema} (old new : State) → RestsIn under old → SameNow old new → RestsIn under new
rests_after old new rests same =
    record { schema = ap (λ (d : Database). d.schema) same.now ∙ rests.schema; settled = same.now ∙ rests.settled ∙ sym same.committed; idle = same.idle }

pub ours_after : (old new : State) → IsKeepersStore old → SameNow old new → IsKeepersStore new
ours_after old new ours same = record {
  rests = rests_after old new ours.rests same;
  database = subst (λ (d : Database). IsOurDatabase d.trees) (sym same.now) ours.database;
  tables = subst (λ (d : Database). HaveWrittenRows d.trees) (sym same.now) ours.tables;
  domains = subst (λ (d : Database). AreNumbered (rows_of d.trees)) (sym same.now) ours.domains;
  documents = subst (λ (d : Database). AreDocuments (rows_of d.trees).documents) (sym same.now) ours.documents;
  whole = subst (λ (d : Database). HaveSoundColumns (rows_of d.trees)) (sym same.now) ours.whole;
}

-- what the first has left, of which the second speaks
module _ (old middle new : State) (first : Quiet old middle) (opens : HasCleanDisk middle → IsTrue middle.is_open) (second : Quiet middle new) (clean : HasCleanDisk new) where
  pub same_between : Rests old → SameNow old middle
  same_between rests = let between = second.clean clean in first.same between rests (opens between)

  pub ours_between : IsKeepersStore old → IsKeepersStore middle
  ours_between ours = ours_after old middle ours (same_between ours.rests)

  pub rows_between : IsKeepersStore old → rows_of middle.now.trees ≡ rows_of old.now.trees
  rows_between ours = ap (λ (d : Database). rows_of d.trees) (same_between ours.rests).now
