-- The bytes of a reply (RFC 9112, sections 2, 4 and 5).
use Rattle.std.specs.Prelude.{ℕ, List, [], ◌++◌, length, codes, decimal, unwrap_or}
use Rattle.http.specs.StatusCode.{code_digits, reason_phrase}
use Rattle.xa_http.specs.declared.replies.Media.{Media}
use Rattle.xa_http.specs.declared.replies.Media.TheVariants.{Json, XacmlJson}
use Rattle.xa_http.specs.declared.replies.Extra.{Extra}
use Rattle.xa_http.specs.declared.replies.Extra.TheVariants.{Nothing, Challenge, Allow}
use Rattle.xa_http.specs.Table.{methods_text}

-- the phrase of a status code, empty if it has none
unfoldable pub phrase : ℕ → List ℕ
phrase status = unwrap_or (reason_phrase status) []

-- the status line
unfoldable pub status_line : ℕ → List ℕ
status_line status = codes "HTTP/1.1 " ++ code_digits status ++ codes " " ++ phrase status ++ codes "\r\n"

-- a field line
unfoldable pub field_line : List ℕ → List ℕ → List ℕ
field_line name value = name ++ codes ": " ++ value ++ codes "\r\n"

-- the name of a media type
abbrev pub media_text : Media → List ℕ
media_text Json = codes "application/json"
media_text XacmlJson = codes "application/xacml+json"

-- the further field line
unfoldable pub extra_lines : Extra → List ℕ
extra_lines Nothing = []
extra_lines Challenge = field_line (codes "WWW-Authenticate") (codes "Bearer")
extra_lines (Allow place) = field_line (codes "Allow") (methods_text place)

-- a whole reply
unfoldable pub http_bytes : ℕ → Media → Extra → List ℕ → List ℕ
http_bytes status media extra body =
    status_line status
    ++ field_line (codes "Content-Type") (media_text media)
    ++ field_line (codes "Content-Length") (decimal (length body))
    ++ extra_lines extra ++ codes "\r\n" ++ body
