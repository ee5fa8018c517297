use Rattle.std.proofs.Common.{rules, ◌≡◌, Some, None, map, string_bytes}
use Rattle.sqlite.specs.WalFiles.{image_at}
use Rattle.pdpd.proofs.EndingLemmas.{ends_listening_as, ends_serving_as, nothing_known}
use Rattle.pdpd.specs.Beginning.{known_text}
use Rattle.pdpd.specs.CommandLine.{command_of}
use Rattle.pdpd.specs.declared.command_line.Command.TheVariants.{Listen, Serve}
use Rattle.pdpd.proofs.exit_of_words.Goals as goal

pub returns-in-Some-Serve : goal.returns-in-Some-Serve
returns-in-Some-Serve g c =
    let same : command_of (map string_bytes c.args.words.now) ≡ Some (Serve c.in-Some-Serve.serving) = search rules in
    rw same
    (ends_serving_as (image_at g.S.Start) (g.C.Clock.told c.args.clock.now) (g.C.Clock.told c.serve_and_close-ended.new.clock) (known_text (λ _. None) c.open-token.result) c.in-Some-Serve.serving c.serve_and_close-ended.result c.by.result
    (nothing_known c.open-token.result) c.serve_and_close-ended.ensures.served c.serve_and_close-ended.ensures.address c.by.ensures)

pub returns-in-Some-Listen : goal.returns-in-Some-Listen
returns-in-Some-Listen g c =
    let same : command_of (map string_bytes c.args.words.now) ≡ Some (Listen c.in-Some-Listen.listening) = search rules in
    rw same
    (ends_listening_as (image_at g.S.Start) (g.C.Clock.told c.args.clock.now) (g.C.Clock.told c.listen_and_close-ended.new.clock) (known_text (λ _. None) c.open-token_file.result) c.in-Some-Listen.listening c.listen_and_close-ended.result c.by-in-Some-Listen.result
    (nothing_known c.open-token_file.result) c.listen_and_close-ended.ensures.served c.listen_and_close-ended.ensures.place c.by-in-Some-Listen.ensures)
