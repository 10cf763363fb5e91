use Rattle.std.proofs.Common.{◌∙◌, string_bytes}
use Rattle.std.proofs.lemmas.Result.{on_ok_weaker}
use Rattle.lotos_tool.proofs.NamedMatches.{round_in, run_in, run_shown, texts_alone, texts_with_round}
use Rattle.lotos_tool.proofs.ever_command.append_origins.Goals as goal

pub append_named_run-requires : goal.append_named_run-requires
append_named_run-requires c =
    let held = c.args.table.now in
    let sound = c.recall_sound.ensures.sound in
    let shown = run_shown held sound (c.steps_stay_in_table.ensures.label held sound) (c.steps_stay_in_table.ensures.term held sound)
    (c.origins_stay_in_table.ensures held sound) c.args.pattern.now c.args.run.now c.in_ok-named.named c.recall_sound.ensures.start
    c.in_ok-named.ensures.named in
    let named = run_in held sound (c.steps_stay_in_table.ensures.label held sound) (c.steps_stay_in_table.ensures.term held sound)
    (c.origins_stay_in_table.ensures held sound) c.args.pattern.now c.args.run.now c.in_ok-named.named c.recall_sound.ensures.start
    c.in_ok-named.ensures.named c.gates.result.now c.as_slice.result.now (c.gates.ensures ∙ c.in_ok-named.ensures.grows.names)
    c.as_slice.ensures.value in
    (shown.0, named)

pub returns-in-None : goal.returns-in-None
returns-in-None c =
    let held = c.args.table.now in
    let sound = c.recall_sound.ensures.sound in
    let shown = run_shown held sound (c.steps_stay_in_table.ensures.label held sound) (c.steps_stay_in_table.ensures.term held sound)
    (c.origins_stay_in_table.ensures held sound) c.args.pattern.now c.args.run.now c.in_ok-named.named c.recall_sound.ensures.start
    c.in_ok-named.ensures.named in
    let named = run_in held sound (c.steps_stay_in_table.ensures.label held sound) (c.steps_stay_in_table.ensures.term held sound)
    (c.origins_stay_in_table.ensures held sound) c.args.pattern.now c.args.run.now c.in_ok-named.named c.recall_sound.ensures.start
    c.in_ok-named.ensures.named c.gates.result.now c.as_slice.result.now (c.gates.ensures ∙ c.in_ok-named.ensures.grows.names)
    c.as_slice.ensures.value in
    texts_alone held sound (c.steps_stay_in_table.ensures.label held sound) (c.steps_stay_in_table.ensures.term held sound)
    (c.origins_stay_in_table.ensures held sound) c.args.pattern.now c.args.run.now c.in_ok-named.named c.recall_sound.ensures.start
    c.in_ok-named.ensures.named (string_bytes c.args.line.now) (string_bytes c.append_named_run.new.line) c.in-None.is
    (c.in_ok-append_named_run.ensures shown.0 named)

pub append_named_round-requires : goal.append_named_round-requires
append_named_round-requires c =
    let held = c.args.table.now in
    let sound = c.recall_sound.ensures.sound in
    round_in held sound (c.steps_stay_in_table.ensures.label held sound) (c.steps_stay_in_table.ensures.term held sound)
    (c.origins_stay_in_table.ensures held sound) c.args.pattern.now c.args.run.now c.in_ok-named.named c.recall_sound.ensures.start
    c.in_ok-named.ensures.named c.in-Some.round c.in-Some.is c.gates-in-Some.result.now
    (c.gates-in-Some.ensures ∙ c.in_ok-named.ensures.grows.names)

pub returns : goal.returns
returns c =
    let held = c.args.table.now in
    let sound = c.recall_sound.ensures.sound in
    let shown = run_shown held sound (c.steps_stay_in_table.ensures.label held sound) (c.steps_stay_in_table.ensures.term held sound)
    (c.origins_stay_in_table.ensures held sound) c.args.pattern.now c.args.run.now c.in_ok-named.named c.recall_sound.ensures.start
    c.in_ok-named.ensures.named in
    let named = run_in held sound (c.steps_stay_in_table.ensures.label held sound) (c.steps_stay_in_table.ensures.term held sound)
    (c.origins_stay_in_table.ensures held sound) c.args.pattern.now c.args.run.now c.in_ok-named.named c.recall_sound.ensures.start
    c.in_ok-named.ensures.named c.gates.result.now c.as_slice.result.now (c.gates.ensures ∙ c.in_ok-named.ensures.grows.names)
    c.as_slice.ensures.value in
    on_ok_weaker c.append_named_round.result (λ written.
    texts_with_round held sound (c.steps_stay_in_table.ensures.label held sound) (c.steps_stay_in_table.ensures.term held sound)
    (c.origins_stay_in_table.ensures held sound) c.args.pattern.now c.args.run.now c.in_ok-named.named c.recall_sound.ensures.start
    c.in_ok-named.ensures.named c.in-Some.round c.in-Some.is c.gates-in-Some.result.now
    (c.gates-in-Some.ensures ∙ c.in_ok-named.ensures.grows.names) (string_bytes c.args.line.now) (string_bytes c.append_named_run.new.line)
    (string_bytes c.append_named_round.new.line) (c.in_ok-append_named_run.ensures shown.0 named) written)
    c.append_named_round.ensures
