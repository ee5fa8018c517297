-- The error answers: each code with its status (RFC 9110, section 15; 431: RFC 6585, section 5), and the bytes of its
-- reply.
use Rattle.std.specs.Prelude.{ℕ, List, ◌++◌, codes}
use Rattle.xa_http.specs.declared.replies.Media.TheVariants.{Json}
use Rattle.xa_http.specs.declared.replies.Extra.{Extra}
use Rattle.xa_http.specs.declared.replies.Extra.TheVariants.{Nothing, Challenge, Allow}
use Rattle.xa_http.specs.declared.route.RouteFault.{RouteFault}
use Rattle.xa_http.specs.declared.route.RouteFault.TheVariants as route
use Rattle.xa_http.specs.declared.fault.SessionFault.{SessionFault}
use Rattle.xa_http.specs.declared.fault.SessionFault.TheVariants as session
use Rattle.xa_http.specs.Fault as http
use Rattle.xa_http.specs.Reply.{http_bytes}
use Rattle.xa_notation.specs.declared.notation_error.NotationError.{NotationError}
use Rattle.xa_notation.specs.declared.notation_error.NotationError.TheVariants as body
use Rattle.xa_records.specs.declared.refusal.Refusal.{Refusal}
use Rattle.xa_records.specs.declared.refusal.Refusal.TheVariants as refusal
use Rattle.xa_server.specs.declared.error_code.ErrorCode.{ErrorCode}
use Rattle.xa_server.specs.declared.error_code.ErrorCode.TheVariants.{NoRoute, BadMethod, BadMediaType, Unauthorized}
use Rattle.xa_server.specs.declared.error_code.ErrorCode.TheVariants.{Forbidden, BadDomain, Body, Keeper, Session}

-- the name of a code, and its status
pub record Row : Type 0 where
  pub name : List ℕ
  pub status : ℕ

-- a row of its name and its status
abbrev pub row : List ℕ → ℕ → Row
row name status = record { name = name; status = status }

-- the row of a fault of a body
abbrev pub row_of_body : NotationError → Row
row_of_body body.NotJson = row (codes "NotJson") 400
row_of_body (body.MissingMember _) = row (codes "MissingMember") 400
row_of_body body.UnknownMember = row (codes "UnknownMember") 400
row_of_body body.BadValue = row (codes "BadValue") 400
row_of_body (body.IllTyped _) = row (codes "IllTyped") 400
row_of_body body.UnknownAlgorithm = row (codes "UnknownAlgorithm") 400
row_of_body body.TooLarge = row (codes "TooLarge") 400

-- the row of a refusal by the keeper, of a change or a reading
abbrev pub row_of_refusal : Refusal → Row
row_of_refusal refusal.Exists = row (codes "Exists") 409
row_of_refusal refusal.Absent = row (codes "Absent") 404
row_of_refusal refusal.Quota = row (codes "Quota") 409
row_of_refusal refusal.SameVersionOtherText = row (codes "SameVersionOtherText") 409
row_of_refusal refusal.StillActive = row (codes "StillActive") 409

-- the row of a fault by which a stream ends
abbrev pub row_of_session : SessionFault → Row
row_of_session session.BadHead = row (codes "BadHead") (http.status_of session.BadHead)
row_of_session session.BodyTooLarge = row (codes "BodyTooLarge") (http.status_of session.BodyTooLarge)
row_of_session session.HeadTooLarge = row (codes "HeadTooLarge") (http.status_of session.HeadTooLarge)
row_of_session session.TransferCoding = row (codes "TransferCoding") (http.status_of session.TransferCoding)

-- the row of an error code
abbrev pub row_of : ErrorCode → Row
row_of NoRoute = row (codes "NoRoute") 404
row_of (BadMethod _) = row (codes "BadMethod") 405
row_of BadMediaType = row (codes "BadMediaType") 415
row_of Unauthorized = row (codes "Unauthorized") 401
row_of Forbidden = row (codes "Forbidden") 403
row_of BadDomain = row (codes "BadDomain") 400
row_of (Body fault) = row_of_body fault
row_of (Keeper refusal) = row_of_refusal refusal
row_of (Session fault) = row_of_session fault

-- the field of an error answer beside the usual ones: a 401 names the scheme (RFC 9110, section 11.6.1), and a 405 the
-- methods that the path has (section 10.2.1)
abbrev pub extra_of : ErrorCode → Extra
extra_of Unauthorized = Challenge
extra_of (BadMethod place) = Allow place
extra_of _ = Nothing

-- the code of a message that asks for nothing that is served
abbrev pub code_of_route_fault : RouteFault → ErrorCode
code_of_route_fault route.NoRoute = NoRoute
code_of_route_fault (route.BadMethod place) = BadMethod place
code_of_route_fault route.BadMediaType = BadMediaType

-- the code of a stream that doesn't go on with a message that is taken
abbrev pub code_of_session_fault : SessionFault → ErrorCode
code_of_session_fault fault = Session fault

-- the body of an error answer
unfoldable pub error_body : ErrorCode → List ℕ
error_body code = codes "{\"Error\":\"" ++ (row_of code).name ++ codes "\"}"

-- the bytes of an error answer
unfoldable pub error_reply : ErrorCode → List ℕ
error_reply code = http_bytes (row_of code).status Json (extra_of code) (error_body code)
