-- What goes back for a message, as bytes (RFC 9110, section 15).
use Rattle.std.specs.Prelude.{ℕ, List, codes}
use Rattle.xa_http.specs.declared.replies.Media.TheVariants.{Json, XacmlJson}
use Rattle.xa_http.specs.declared.replies.Extra.TheVariants.{Nothing}
use Rattle.xa_http.specs.Reply.{http_bytes}
use Rattle.xa_server.specs.declared.replies.Reply.{Reply}
use Rattle.xa_server.specs.declared.replies.Reply.TheVariants.{Sent, Refused}

-- the reply with what is read of a domain
unfoldable pub json_reply : List ℕ → List ℕ
json_reply body = http_bytes 200 Json Nothing body

-- the reply with a response (JSON Profile of XACML 3.0, section 7)
unfoldable pub decision_reply : List ℕ → List ℕ
decision_reply body = http_bytes 200 XacmlJson Nothing body

-- the reply to a change that was made
unfoldable pub done_reply : List ℕ
done_reply = http_bytes 200 Json Nothing (codes "{}")

-- the reply to a change by which something is there that wasn't
unfoldable pub created_reply : List ℕ
created_reply = http_bytes 201 Json Nothing (codes "{}")

-- the 503 of a refused message (RFC 9110, section 15.6.4)
unfoldable pub unavailable_reply : List ℕ
unavailable_reply = http_bytes 503 Json Nothing (codes "{\"Error\":\"Unavailable\"}")

-- the bytes of a reply; of a refused message those of the 503
abbrev pub bytes_of : Reply → List ℕ
bytes_of (Sent bytes) = bytes
bytes_of (Refused _) = unavailable_reply
