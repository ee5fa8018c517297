-- The names that most proofs of this crate cite, passed on from one place: those of the crates below, and of the definitions on which nearly all
-- others stand. Declares nothing.
pub use Rattle.std.proofs.lemmas.Bool.{and_from, and_parts, both_ways, cases_Bool, cond_both}
pub use Rattle.std.proofs.lemmas.Bool.Decides.{nat_tests}
pub use Rattle.std.proofs.lemmas.Cmp.{int_cmp_total, int_ranked, nat_list_cmp_total, on_total, then_total, tied_itself}
pub use Rattle.std.proofs.lemmas.Int.{ints, to_z-of_z}
pub use Rattle.std.proofs.lemmas.List.{length-map, nil_from_length}
pub use Rattle.std.proofs.lemmas.List.Sorted.{All-permutation, IsPermutation-map, IsPermutation-sym, IsPermutation-trans, length_permutation, ranks_by}
pub use Rattle.std.proofs.lemmas.Map.Text.{is_eq-slice_cmp}
pub use Rattle.std.proofs.lemmas.Str.{is_utf8-from_IsUtf8, IsAscii-append, IsUtf8-from_ascii, IsUtf8-from_is_utf8}
pub use Rattle.std.specs.Cmp.{eq_by_cmp_equiv, IsTotalOrder}
pub use Rattle.std.specs.FinMap.{contains_key, empty, entries, entries-insert, FinMap, from_entries, from_entries_push, get, get-from_entries, get-insert, get-remove, insert, IsAntisymmetric, len, len-empty, len-entries, nat_cmp-IsAntisymmetric, put, remove, same_map, slice_cmp-IsAntisymmetric}
pub use Rattle.std.specs.List.{AllByRecursion, join_with_byte, list_all, list_any}
pub use Rattle.std.specs.Ordering.{eq_by_cmp, match_ordering, on, ordering_reverse, ordering_then}
pub use Rattle.std.specs.Prelude.{FitsSigned}
pub use Rattle.std.specs.Result.{result_ok}
pub use Rattle.std.specs.Str.{is_utf8, IsAscii, IsUtf8}
pub use Rattle.sqlite.proofs.Callers.{begins_as, begun_plain, command_of, given_begin, never_commits, one_permutation, one_step, reads_as, runs_as, statement_of, survives_begin, unchanged_then}
pub use Rattle.sqlite.proofs.StateLemmas.{clean_if_open, survives_then, survives_weaker}
pub use Rattle.sqlite.specs.Collation.{Collation}
pub use Rattle.sqlite.specs.Collation.TheVariants.{Binary}
pub use Rattle.sqlite.specs.Command.{Command}
pub use Rattle.sqlite.specs.Command.TheVariants.{Begin, CreateTable, Delete, Insert, Rollback, Select, Update}
pub use Rattle.sqlite.specs.Edit.{edit_of}
pub use Rattle.sqlite.specs.Effect.{Answers, Database, IsDatabase, IsSource, RefusesToRead, value_rows}
pub use Rattle.sqlite.specs.Given.{GivesOn, HasBegun, HasGiven, IsPlain}
pub use Rattle.sqlite.specs.Held.{Held, state}
pub use Rattle.sqlite.specs.Listing.{reads_listing, understood}
pub use Rattle.sqlite.specs.Order.{column, Row}
pub use Rattle.sqlite.specs.Program.{overlay}
pub use Rattle.sqlite.specs.Query.{end, folded, inner, Output, output, output_cmp, Query}
pub use Rattle.sqlite.specs.Rowids.TheVariants.{Above, Chosen, Given}
pub use Rattle.sqlite.specs.Rows.{count_of, Counts, CountsIn, Edited, Gives, Inserts, sequence, stamped, Task, Written}
pub use Rattle.sqlite.specs.Schema.{Schema}
pub use Rattle.sqlite.specs.Source.TheVariants.{Values}
pub use Rattle.sqlite.specs.State.{CommitsShowing, Executes, Fails, FailsToQuery, FailsToShow, HasCause, HasCleanDisk, IsLive, IsNoStatement, IsRolledBack, IsUnchanged, KeepsCommit, KeepsCounts, MayCommit, mode_of, Shown, Shows, ShowsRows, State, store_error, Survives}
pub use Rattle.sqlite.specs.Store.{Ghosts}
pub use Rattle.sqlite.specs.Table.{Table}
pub use Rattle.sqlite.specs.Term.{col, Env, eval, eval_all, holds, lit, op1, op2, Term}
pub use Rattle.sqlite.specs.Tree.{Trees}
pub use Rattle.sqlite.specs.declared.error.Error.{Error}
pub use Rattle.sqlite.specs.declared.types.Value.{Value}
pub use Rattle.sqlite.specs.declared.types.Value.TheVariants.{Blob, Int, Null, Real, Text}
pub use Rattle.sqlite_catalog.specs.Listing.{IsSound}
pub use Rattle.sqlite_keyed.proofs.KeyedLemmas.{above_all, all-insert_by, int_eq_apart, IsKeyedBy-delete_where, IsKeyedBy-insert_by, IsKeyedBy-update_where, Less-from_lt, same_int}
pub use Rattle.sqlite_keyed.proofs.ListLemmas.{all-append, all-filter, all_both, all_from_test, all_map, all_of, all_unmap, all_weaker, along_permutation, any_from_none, ascending-append, ascending-filter, ascending-map, ascending_from_map, ascending_weaker, filter-map, filter_all, filter_none, IsPermutation-filter, map-map, map_same, none_from_any, slice_get-filter, test_from_all}
pub use Rattle.sqlite_keyed.proofs.RuleLemmas.{apart_delete, apart_insert, apart_update, at_most_one, first_of_both, second_of_both}
pub use Rattle.sqlite_keyed.proofs.SortLemmas.{IsPermutation-sort_by, sort_by-map, sorted_is-sort_by, sorted_unique}
pub use Rattle.sqlite_keyed.specs.Keyed.{get_by, insert_by, IsKeyedBy, next_key}
pub use Rattle.sqlite_keyed.specs.Lists.{delete_where, insert_sorted, sort_by, update_where, without_key}
pub use Rattle.sqlite_keyed.specs.Rules.{AreApart, is_apart}
pub use Rattle.sqlite_rules.specs.Action.{action_edit, Acts, ActsOn, AreChildren, deed_for, is_child_of, Leads, loses, pairs, Work, work_by, works}
pub use Rattle.sqlite_rules.specs.Calls.{ids_of}
pub use Rattle.sqlite_rules.specs.Cast.{cast_row}
pub use Rattle.sqlite_rules.specs.Edit.{id_in, IsNoIndex, next_rowid, numbered, put_all, row_at, taken_by, with_rowid, without_all}
pub use Rattle.sqlite_schema.specs.Rules.{agree, are_present, are_typed, clashes, differ, parent_key, passes, suits}
pub use Rattle.sqlite_schema.specs.declared.schema.Constraint.TheVariants.{Datatype, NotNull, Unique}
pub use Rattle.sqlite_schema.specs.declared.schema.Keys.TheVariants.{Enforced}
pub use Rattle.sqlite_sql.proofs.QueryLemmas.{output_cmp_total}
pub use Rattle.sqlite_sql.specs.Ops.{from_truth, is_null, not3, truth}
pub use Rattle.sqlite_sql.specs.Query.{IsSureAnswer, matches_as}
pub use Rattle.sqlite_sql.specs.declared.ops.BinaryOp.TheVariants.{Compare, Is}
pub use Rattle.sqlite_sql.specs.declared.ops.CompareOp.TheVariants.{Eq, Ne}
pub use Rattle.sqlite_trees.specs.Tree.{has_rowid, IsAscending, put_row, rowid}
pub use Rattle.sqlite_typed.proofs.RowLemmas.{deletes-map, puts-map}
pub use Rattle.sqlite_typed.proofs.TestLemmas.{at_blobs, at_ints, at_texts, bytes_eq_refl, last_key, last_term, null_back, same_bytes, then_key, then_term, turn_eq}
pub use Rattle.sqlite_typed.specs.Columns.{bytes_of, int_of, or_null, unless_null}
pub use Rattle.sqlite_value.proofs.OrderLemmas.{value_cmp-Blob, value_cmp-Int, value_cmp-Null, value_cmp-Text, value_cmp_total}
pub use Rattle.xa_decide.specs.declared.source_row.SourceRow.{SourceRow}
pub use Rattle.xa_notation.specs.Document.{document_as_written, document_of, or_ill_typed, typed_document}
pub use Rattle.xa_notation.specs.declared.document.Parsed.{Parsed}
pub use Rattle.xa_notation.specs.declared.token.Role.{Role}
pub use Rattle.xa_policy.specs.DocumentKey.{compare_keys, place_of_kind}
pub use Rattle.xa_policy.specs.Pattern.{are_parts, IsPattern, part_text, pattern_text, read_pattern}
pub use Rattle.xa_policy.specs.Version.{is_short, IsVersion, parts, read_version, version_text}
pub use Rattle.xa_policy.specs.declared.document_key.DocumentKey.{DocumentKey}
pub use Rattle.xa_policy.specs.declared.reference.DocumentKind.{DocumentKind}
pub use Rattle.xa_policy.specs.declared.reference.Reference.{Reference}
pub use Rattle.xa_records.proofs.KeptLemmas.{numbered_changed}
pub use Rattle.xa_records.proofs.OrderLemmas.{bytes_exact, bytes_total, keys_exact, keys_total}
pub use Rattle.xa_records.specs.Changes.{activity_set, Change, created, deleted, or_absent, removed, root_set, source_set, token_dropped, token_put, upload_of, uploaded, uploaded_over, with_document, with_documents, with_tokens, within}
pub use Rattle.xa_records.specs.DomainName.{is_domain_name}
pub use Rattle.xa_records.specs.DomainState.{compare_bytes, DomainState, IsDocumentOf, new_domain, StoredDocument}
pub use Rattle.xa_records.specs.Keeper.{Changes, IfAnswered, Leaves, Reads}
pub use Rattle.xa_records.specs.Kept.{Becomes, Domain, IsChanged, IsMade, IsNextEpoch, IsNextNumber, IsNumbered, IsRaised, Kept, names_of, nothing_kept, state_of}
pub use Rattle.xa_records.specs.Readings.{active_text, active_texts, gate_of, gate_of_domain, kept_view_of, listed_of, listing_of, listing_of_state, text_in, text_of, token_of, view_of_state}
pub use Rattle.xa_records.specs.declared.refusal.ChangeError.{ChangeError}
pub use Rattle.xa_records.specs.declared.refusal.Failure.{Failure}
pub use Rattle.xa_records.specs.declared.refusal.Refusal.TheVariants.{Absent, Exists, Quota, SameVersionOtherText, StillActive}
pub use Rattle.xa_value.specs.Gives.{◌>>=◌}
pub use Rattle.xa_value.specs.Order.{type_of}
pub use Rattle.xa_value.specs.Printing.{printed}
pub use Rattle.xa_value.specs.Reading.{read, read_as}
pub use Rattle.xa_store.specs.Meaning.{document_entry, documents_at, domain_entry, domain_of, kept_in, kept_in_schema_1, kept_of, documents_by_key, roles_of, root_at, Rows, rows_of, rows_of_schema_1, source_of, sources_at, state_at, token_entry, tokens_at}
pub use Rattle.xa_store.specs.Opened.{are_counted, are_rising, are_sound_rows, as_read, checked, count_from, holds_blob, holds_int, holds_key, holds_text, holds_text_if_any, holds_value, int_in, is_assigned, is_bit, is_count, is_digest, is_empty, is_left_empty, is_number, is_pattern, is_printed, is_sound, is_sound_row, is_sound_table, is_value, is_version, is_whole_row, tables_in, known_next, next_of, number_of, opened, place_in, places_of, read_columns, read_meta, rowid_in, schema_of, sources_in, type_numbered}
pub use Rattle.xa_store.specs.Rows.{activity_number, document_in, document_row, DocumentRow, domain_in, domain_row, DomainRow, flag_in, issuer_columns, kind_in, kind_number, meta_row, meta_row_of, nat_of, next_in, placed_row, placed_row_in, PlacedRow, reference_of, role_in, role_number, root_in, root_of, root_row, RootRow, text_at, token_in, token_row, TokenRow, type_in, type_number, unissued_in, value_text, version_in}
pub use Rattle.xa_store.specs.Sound.{AreDocuments, AreNumbered, AreRootTexts, AreRows, AreSourceTexts, HaveSoundColumns, HaveWrittenRows, is_if_any, IsKeepersStore, IsOurDatabase, IsSoundStore, LeavesKept, OpensSoundly, place_of, Rests, RestsIn, same_document, same_name, same_place, same_token, SameNow}
pub use Rattle.xa_store.specs.Tables.{attributes, domains, meta, needed, of_domain, own_key, policies, rising, roots, schema_1, schema_2, sources, text_if_any, tokens, tree_of}
pub use Rattle.xa_store.specs.declared.error.OpenError.{OpenError}
pub use Rattle.xa_store.specs.declared.error.OpenError.TheVariants.{Damaged, Memory, NotThisSchema, Store}
pub use Rattle.xa_store.specs.declared.check.row.SourcePlace.{SourcePlace}
pub use Rattle.xa_store.specs.declared.schema.checked_table.CheckedTable.{CheckedTable}
pub use Rattle.xa_store.specs.declared.schema.checked_table.CheckedTable.TheVariants.{Attributes, Documents, Domains, Roots, Sources, Tokens}
pub use Rattle.xa_store.specs.declared.schema.version.SchemaVersion.{SchemaVersion}
pub use Rattle.xa_store.specs.declared.schema.version.SchemaVersion.TheVariants.{Schema1, Schema2}
