use Rattle.std.proofs.Common.{refl}
use Rattle.xa_http.specs.Reply.{http_bytes}
use Rattle.xa_http.proofs.replies.reply.Goals as goal

pub returns : goal.returns
unfolding http_bytes
returns c =
    rw (
      c.in_ok-extend_from_slice-2.ensures.items,
      c.in_ok-extend_from_slice.ensures.items,
      c.in_ok-push_extra_lines.ensures,
      c.in_ok-push_field_line-2.ensures,
      c.as_str.ensures.value,
      c.in_ok-length.ensures.ok,
      c.in_ok-push_field_line.ensures,
      c.name.ensures,
      c.in_ok-push_status_line.ensures,
      c.in_ok-bytes.ensures.items,
    ) refl
