-- The faults by which a session ends, with their statuses (RFC 9110, sections 15.5 and 15.6; RFC 6585, section 5).
use Rattle.std.specs.Prelude.{ℕ}
use Rattle.xa_http.specs.declared.fault.SessionFault.{SessionFault}
use Rattle.xa_http.specs.declared.fault.SessionFault.TheVariants.{BadHead, BodyTooLarge, HeadTooLarge, TransferCoding}

-- the status of the reply to a fault
abbrev pub status_of : SessionFault → ℕ
status_of BadHead = 400
status_of BodyTooLarge = 413
status_of HeadTooLarge = 431
status_of TransferCoding = 501
