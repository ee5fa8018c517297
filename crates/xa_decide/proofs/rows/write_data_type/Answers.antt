use Rattle.xa_profile.specs.Response.{type_data}
use Rattle.xa_decide.proofs.rows.write_data_type.Goals as goal

pub returns : goal.returns
unfolding type_data
returns c = rw (← c.uri.ensures) c.write_text.ensures
