-- What is told of the keeper in memory, in the words of the trait.
use Rattle.xa_records.specs.declared.plain.records.PlainRecords.{PlainRecords}
use Rattle.xa_records.specs.Keeper.{Custody, in_memory}

-- what the trait says of a keeper, said of the one in memory
abbrev pub plain_custody : PlainRecords → Custody
plain_custody keeper = in_memory keeper.domains keeper.faults
