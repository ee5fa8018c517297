-- What a message asks for: the path that its target names, the place at that path, and the method.
use Rattle.std.specs.Prelude.{ℕ, Bool, ◌||◌, not, List, [], length, take, drop, get_or, nat_eq}
use Rattle.std.specs.Prelude.{if◌then◌else◌, Option, Some, None, Result, Ok, Err, codes, bytes_eq}
use Rattle.std.specs.List.{list_any}
use Rattle.std.specs.Option.{ok_or, option_and_then, option_map}
use Rattle.std.specs.Str.{is_utf8}
use Rattle.matchit.specs.Seek.{first}
use Rattle.percent_encoding.specs.Percent.{percent_decode}
use Rattle.xa_http.specs.declared.message.Message.{Message}
use Rattle.xa_http.specs.declared.table.Place.{Place}
use Rattle.xa_value.specs.Gives.{◌>>=◌}
use Rattle.xa_http.specs.declared.command.Command.{Command}
use Rattle.xa_http.specs.declared.command.Command.TheVariants as asks
use Rattle.xa_http.specs.declared.route.DocumentParts.{DocumentParts}
use Rattle.xa_http.specs.declared.route.Route.{Route}
use Rattle.xa_http.specs.declared.route.Route.TheVariants as to
use Rattle.xa_http.specs.declared.route.RouteFault.{RouteFault}
use Rattle.xa_http.specs.declared.route.RouteFault.TheVariants.{NoRoute, BadMethod, BadMediaType}
use Rattle.xa_http.specs.ContentType.{allows_json}
use Rattle.xa_http.specs.Parts.{before, from_first, parts_of}
use Rattle.xa_http.specs.Table.{command_at, domain_part, reads_body, table}

-- the path of a target without its query: of an absolute one (RFC 9112, section 3.2.2), with `http` in small letters
-- alone, it begins at the slash after the authority
unfoldable pub path_of_plain : List ℕ → Option (List ℕ)
path_of_plain target =
    if bytes_eq (take 7 target) (codes "http://") then from_first 47 (drop 7 target) else Some target

-- the path that a target names; the query, from the first question mark on, is no part of it
unfoldable pub path_of : List ℕ → Option (List ℕ)
path_of target = if is_utf8 target then path_of_plain (before 63 target) else None

-- the parts of a path (RFC 3986, section 3.3): each follows a slash
abbrev pub later_parts : List ℕ → List (List ℕ)
later_parts path = drop 1 (parts_of 47 path)

-- one of a path's parts is empty
unfoldable pub has_empty_part : List ℕ → Bool
has_empty_part path = list_any (λ part. nat_eq (length part) 0) (later_parts path)

-- the place at a path: the one that the router finds. It reads a text, as it was sent: percent-encoded bytes of a
-- pattern's own parts (RFC 3986, section 2.1) aren't decoded. Nothing is at a path with an empty part
unfoldable pub place_at : List ℕ → Option Place
place_at path =
    if has_empty_part path || not (is_utf8 path) then None else option_map (λ route. route.value) (first table path)

-- a part of a path, percent-decoded once
unfoldable pub decoded_part : List ℕ → ℕ → List ℕ
decoded_part path part = percent_decode (get_or (parts_of 47 path) part [])

-- a path that leads to a place
pub record Address : Type 0 where
  pub place : Place
  pub path : List ℕ

-- where a path leads
abbrev pub address_at : List ℕ → Option Address
address_at path = option_map (λ place. record { place = place; path = path }) (place_at path)

-- where a target leads
unfoldable pub address_of : List ℕ → Option Address
address_of target = option_and_then address_at (path_of target)

-- the part of an address's path that names a domain, if there is one, decoded
abbrev pub named_part : Address → Option (List ℕ)
named_part address = option_map (decoded_part address.path) (domain_part address.place)

-- the parts of the path that name a document
abbrev pub document_parts : List ℕ → DocumentParts
document_parts path = record { kind = decoded_part path 4; id = decoded_part path 5; version = decoded_part path 6 }

-- what is asked for, with the parts of the path
abbrev pub route_to : List ℕ → Command → Route
route_to path asks.Domains = to.Domains
route_to path (asks.Operator command) = to.Operator (decoded_part path 3) command
route_to path asks.Decide = to.Decide (decoded_part path 2)
route_to path (asks.Domain command) = to.Domain (decoded_part path 2) command
route_to path (asks.Document command) = to.Document (decoded_part path 2) (document_parts path) command

-- the part of a route that names a domain, if there is one
abbrev pub named_by : Route → Option (List ℕ)
named_by to.Domains = None
named_by (to.Operator domain command) = Some domain
named_by (to.Decide domain) = Some domain
named_by (to.Domain domain command) = Some domain
named_by (to.Document domain parts command) = Some domain

-- the body isn't read, or has a media type that is read
abbrev pub takes_body : Message → Command → Bool
takes_body message command = not (reads_body command) || allows_json message.fields

-- what a message asks for, or why that is nothing that is served: where it leads, what its method asks for there, and
-- then the media type of its body
unfoldable pub route_of : Message → Result Route RouteFault
route_of message = do
  address ← ok_or (address_of message.target) NoRoute
  command ← ok_or (command_at message.method address.place) (BadMethod address.place)
  if takes_body message command then Ok (route_to address.path command) else Err BadMediaType
