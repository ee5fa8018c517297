-- The bytes of the fixed reply.
use Rattle.std.proofs.Common.{◌≡◌, refl, codes}
use Rattle.std.specs.Fmt.{digits}
use Rattle.xa_http.specs.Reply.{http_bytes, status_line, field_line, phrase, extra_lines}
use Rattle.xa_server.specs.Replies.{unavailable_reply}

-- the 503 in one piece
pub unavailable_is : codes "HTTP/1.1 503 Service Unavailable\r\nContent-Type: application/json\r\nContent-Length: 23\r\n\r\n{\"Error\":\"Unavailable\"}" ≡ unavailable_reply
unfolding digits unavailable_reply http_bytes status_line field_line phrase extra_lines
unavailable_is = refl
