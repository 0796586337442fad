use Rattle.std.proofs.Common.{sym, ap, ◌∙◌}
use Rattle.audio_daemon.specs.Run.{is_folder}
use Rattle.audio_daemon.proofs.RunStatus.{other_count, other_command, same_command}
use Rattle.audio_daemon.proofs.run.are_replay.Goals as goal

pub returns-then-len-ne2 : goal.returns-then-len-ne2
returns-then-len-ne2 c = other_count c.args.words.now c.len.result c.len.ensures c.if-len-ne2.true

pub returns-then-eq : goal.returns-then-eq
returns-then-eq c =
    c.names_folder.ensures ∙ ap is_folder c.as_bytes.ensures.value
    ∙ same_command c.args.words.now c.in-Some-Some.command.now c.in-Some-Some.folder.now c.len.result c.len.ensures
    c.if-len-ne2.false c.in-Some-Some.ensures.word c.in-Some-Some.ensures'.word (sym c.eq.ensures ∙ c.if-eq.true)

pub returns-else-eq : goal.returns-else-eq
returns-else-eq c =
    c.if-eq.false
    ∙ other_command c.args.words.now c.in-Some-Some.command.now c.in-Some-Some.folder.now c.len.result c.len.ensures
    c.if-len-ne2.false c.in-Some-Some.ensures.word c.in-Some-Some.ensures'.word (sym c.eq.ensures ∙ c.if-eq.false)
