-- Whose a message is: the domain that its path names.
use Rattle.std.specs.Prelude.{ℕ, List, Option, Some, None, option_and_then, if◌then◌else◌}
use Rattle.xa_http.specs.declared.message.Message.{Message}
use Rattle.xa_http.specs.Routes.{address_of, named_part}
use Rattle.xa_records.specs.DomainName.{is_domain_name}

-- a part of a path, if it is a domain name
abbrev pub name_if : List ℕ → Option (List ℕ)
name_if part = if is_domain_name part then Some part else None

-- the domain that the message's path names by a decoded part, whether or not it exists
unfoldable pub owner : Message → Option (List ℕ)
owner message = option_and_then name_if (option_and_then named_part (address_of message.target))
