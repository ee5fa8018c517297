-- The connections of a front, by their numbers.
use Rattle.std.proofs.Common.{◌≡◌, ℕ, List, Option, Some, None, Result, Ok, Err, refl, sym, ap, ◌∙◌}
use Rattle.std.proofs.lemmas.List.{set-get_or}
use Rattle.xa_http.specs.Stream.{Stream}
use Rattle.xa_server.specs.Connection.{TakesPiece}
use Rattle.xa_server.specs.declared.front_error.FrontError.{FrontError}
use Rattle.xa_server.specs.declared.lines.Conn.{Conn}
use Rattle.xa_server.specs.declared.connection.TakeError.{TakeError}
use Rattle.xa_server.specs.declared.connection.TakeError.TheVariants.{Memory, Full}
use Rattle.xa_server.specs.Lines.{IsHeld, IsOpen, Lines, refusal_of, with_line}

-- with the stream that it has, nothing changes
pub line_kept : (conn : Conn) (old new : Lines) (s t : Stream) → IsOpen conn old s → new ≡ with_line conn (Some t) old
    → t ≡ s → new ≡ old
line_kept conn old new s t opens put same =
    put ∙ ap (λ (u : Stream). with_line conn (Some u) old) same
    ∙ ap (λ (l : Option Stream). with_line conn l old) (sym opens) ∙ set-get_or old conn.number None

module _ (conn : Conn) (piece : List ℕ) (old new : Lines) (s t : Stream) (opens : IsOpen conn old s)
    (put : new ≡ with_line conn (Some t) old) where
  -- a piece came to one, or it didn't take it
  pub held_at : (done : Unit {0}) → TakesPiece piece s (Ok done) t → IsHeld conn piece old (Ok done) new
  held_at done takes = (s, t, opens, takes, put)

  pub refused_at : (why : TakeError) (error : FrontError) → error ≡ refusal_of why → TakesPiece piece s (Err why) t
      → IsHeld conn piece old (Err error) new
  refused_at Memory error is (few, same) =
      rw is (s, Memory, opens, (few, refl), refl, line_kept conn old new s t opens put same)
  refused_at Full error is (many, same) =
      rw is (s, Full, opens, (many, refl), refl, line_kept conn old new s t opens put same)
