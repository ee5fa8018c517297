-- What is served: the pattern of each path, as the router `matchit` reads it, the place there, and what each method
-- asks for there.
use Rattle.std.specs.Prelude.{ℕ, Bool, true, false, is_none, List, [], ◌∷◌, ◌++◌, Option}
use Rattle.std.specs.Prelude.{Some, None, option_map, find, Result, Ok, Err, codes, bytes_eq}
use Rattle.matchit.specs.Rows.{RowsOf}
use Rattle.matchit.specs.Order.{placed}
use Rattle.matchit.specs.Route.{Scan, parse_route}
use Rattle.matchit.specs.Router.{RouteOf, nearest, route_from}
use Rattle.matchit.specs.declared.error.InsertError.{InsertError}
use Rattle.xa_http.specs.declared.command.Command.{Command}
use Rattle.xa_http.specs.declared.command.Command.TheVariants as asks
use Rattle.xa_http.specs.declared.command.OperatorCommand.TheVariants as operator
use Rattle.xa_http.specs.declared.command.DomainCommand.TheVariants as domain
use Rattle.xa_http.specs.declared.command.DocumentCommand.TheVariants as document
use Rattle.xa_http.specs.declared.method.Method.{Method}
use Rattle.xa_http.specs.declared.method.Method.TheVariants.{Delete, Get, Post, Put}
use Rattle.xa_http.specs.declared.table.Place.{Place}
use Rattle.xa_http.specs.declared.table.Place.TheVariants as place

-- the patterns of the paths, and the place at each
abbrev pub patterns : List (List ℕ × Place)
patterns =
    (codes "/operator/domains", place.Domains)
    ∷ (codes "/operator/domains/{domain}", place.OneDomain)
    ∷ (codes "/operator/domains/{domain}/tokens", place.Tokens)
    ∷ (codes "/domains/{domain}/pdp", place.Decisions)
    ∷ (codes "/domains/{domain}/pap/policies", place.Documents)
    ∷ (codes "/domains/{domain}/pap/root", place.Root)
    ∷ (codes "/domains/{domain}/pip", place.Source)
    ∷ (codes "/domains/{domain}/pap/{kind}/{id}/{version}", place.OneDocument)
    ∷ (codes "/domains/{domain}/pap/{kind}/{id}/{version}/active", place.Activity)
    ∷ []

-- what each method asks for at a place, in the order of the methods' names
abbrev pub commands : Place → List (Method × Command)
commands place.Domains = (Get, asks.Domains) ∷ []
commands place.OneDomain = (Delete, asks.Operator operator.Remove) ∷ (Put, asks.Operator operator.Create) ∷ []
commands place.Tokens = (Delete, asks.Operator operator.DropToken) ∷ (Post, asks.Operator operator.PutToken) ∷ []
commands place.Decisions = (Post, asks.Decide) ∷ []
commands place.Documents = (Get, asks.Domain domain.List) ∷ (Post, asks.Domain domain.Upload) ∷ []
commands place.Root = (Put, asks.Domain domain.SetRoot) ∷ []
commands place.Source = (Get, asks.Domain domain.ShowSource) ∷ (Put, asks.Domain domain.SetSource) ∷ []
commands place.OneDocument = (Delete, asks.Document document.Delete) ∷ (Get, asks.Document document.Show) ∷ []
commands place.Activity = (Delete, asks.Document document.Deactivate) ∷ (Put, asks.Document document.Activate) ∷ []

-- what is asked for reads the body
abbrev pub reads_body : Command → Bool
reads_body (asks.Operator operator.PutToken) = true
reads_body (asks.Operator operator.DropToken) = true
reads_body asks.Decide = true
reads_body (asks.Domain domain.Upload) = true
reads_body (asks.Domain domain.SetRoot) = true
reads_body (asks.Domain domain.SetSource) = true
reads_body _ = false

-- what is asked for changes what is kept
abbrev pub changes : Command → Bool
changes asks.Domains = false
changes (asks.Operator _) = true
changes asks.Decide = false
changes (asks.Domain domain.List) = false
changes (asks.Domain domain.ShowSource) = false
changes (asks.Domain _) = true
changes (asks.Document document.Show) = false
changes (asks.Document _) = true

-- which part of a place's path names a domain; part 0 is what stands before the first slash
abbrev pub domain_part : Place → Option ℕ
domain_part place.Domains = None
domain_part place.OneDomain = Some 3
domain_part place.Tokens = Some 3
domain_part place.Decisions = Some 2
domain_part place.Documents = Some 2
domain_part place.Root = Some 2
domain_part place.Source = Some 2
domain_part place.OneDocument = Some 2
domain_part place.Activity = Some 2

-- the name of a method (RFC 9110, section 9.3)
abbrev pub name_of : Method → List ℕ
name_of Delete = codes "DELETE"
name_of Get = codes "GET"
name_of Post = codes "POST"
name_of Put = codes "PUT"

-- what the method of that name asks for, by these rows
abbrev pub command_in : List ℕ → List (Method × Command) → Option Command
command_in name rows = option_map (λ row. row.1) (find (λ row. bytes_eq name (name_of row.0)) rows)

-- what the method of that name asks for at a place; names of methods are case-sensitive (RFC 9110, section 9.1)
abbrev pub command_at : List ℕ → Place → Option Command
command_at name place = command_in name (commands place)

-- the names of the methods, with a comma and a space between two
abbrev pub names_in : List (Method × Command) → List ℕ
names_in [] = []
names_in ((method, _) ∷ []) = name_of method
names_in ((method, _) ∷ row ∷ rows) = name_of method ++ codes ", " ++ names_in (row ∷ rows)

-- the methods that are served at a place
abbrev pub methods_text : Place → List ℕ
methods_text place = names_in (commands place)

-- a router with these routes takes a pattern: it reads as one, and conflicts with none of them
abbrev pub takes : Result Scan InsertError → RowsOf (RouteOf Place) → Bool
takes (Ok scan) rows = is_none (nearest scan.pattern rows)
takes (Err _) rows = false

-- the routes of a router, and one more, if its pattern reads as one
abbrev pub with_read : Result Scan InsertError → Place → RowsOf (RouteOf Place) → RowsOf (RouteOf Place)
with_read (Ok scan) place rows = placed (scan.pattern, route_from scan place) rows
with_read (Err _) place rows = rows

-- the routes of a router, and one more for each of these patterns that reads as one
abbrev pub with_patterns : List (List ℕ × Place) → RowsOf (RouteOf Place) → RowsOf (RouteOf Place)
with_patterns [] rows = rows
with_patterns ((pattern, place) ∷ more) rows = with_patterns more (with_read (parse_route pattern) place rows)

-- the routes of the router of all patterns
unfoldable pub table : RowsOf (RouteOf Place)
table = with_patterns patterns []
