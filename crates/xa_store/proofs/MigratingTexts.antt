-- What the statements are that bring schema 1 into schema 2.
use Rattle.std.proofs.Common.{pos, List, [], ◌∷◌, map, refl}
use Rattle.xa_store.proofs.Common.{Collation, Binary, Insert, Query, Term, lit, col, Null, Int}
use Rattle.sqlite.specs.Listing.{understood}
use Rattle.sqlite.specs.Source.TheVariants.{Query as Queried}
use Rattle.sqlite_tied.specs.Compute.{everything}
use Rattle.xa_store.specs.keeping.Texts as text
use Rattle.xa_store.proofs.RisingTexts.{by_rowid}
use Rattle.xa_store.proofs.TextLemmas.{IsChange, delete, is_one, of_table, update}

-- a row of a source without an issuer: its rowid is chosen, and its columns are those that it had
abbrev pub filled_given : List Term
filled_given = lit Null ∷ col 1 1 ∷ col 1 2 ∷ col 1 3 ∷ col 1 4 ∷ col 1 5 ∷ col 1 6 ∷ col 1 7 ∷ lit Null ∷ []

abbrev pub filled_collations : List Collation
filled_collations = map (λ _. Binary) filled_given

abbrev pub filled_query : Query
filled_query = by_rowid 8 filled_given filled_collations

pub copy_attributes_is : IsChange text.copy_attributes (Insert 6 (Queried (record { lets = []; body = filled_query })))
unfolding understood everything
copy_attributes_is = (refl, (refl, refl))

abbrev pub attributes_emptied_query : Query
attributes_emptied_query = of_table 8 [] (col 1 0 ∷ []) []

pub empty_attributes_is : IsChange text.empty_attributes (delete 5 attributes_emptied_query)
unfolding understood everything
empty_attributes_is = (refl, (refl, refl))

abbrev pub schema_raised_shown : List Term
schema_raised_shown = col 1 0 ∷ col 1 0 ∷ lit Null ∷ lit (Int (pos 2)) ∷ col 1 3 ∷ []

abbrev pub schema_raised_query : Query
schema_raised_query = of_table 0 (is_one 0 ∷ []) schema_raised_shown []

pub set_schema_is : IsChange text.set_schema (update 0 schema_raised_query)
unfolding understood everything
set_schema_is = (refl, (refl, refl))
