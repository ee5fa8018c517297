-- How the code reads: functions that follow its steps. Nobody has to sign them: the clause `grammar` of `Value::read`
-- says by the grammars what `Reading.read`, which stands on them, answers for every text.
pub mod Binary
pub mod Calendar
pub mod Duration
pub mod Lexical
pub mod Number
pub mod Time
pub mod Zone
