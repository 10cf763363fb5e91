use Rattle.std.proofs.Common.{◌≡◌, ◌+◌, ◌++◌, ◌∷◌, [], ◌∙◌, IsUtf8, ap, arith, drop, refl, rules, string_bytes, subst, sym}
use Rattle.std.proofs.lemmas.Str.{IsUtf8-append, IsUtf8-from_ascii}
use Rattle.std.proofs.lemmas.Str.Ascii.{IsAscii-cons, IsAscii-nil}
use Rattle.lotos_output.proofs.FormattedLines.{left_behind, left_from, left_none, left_shown}
use Rattle.lotos_output.proofs.output_lines.append_labels.Goals as goal

pub loop-label-init : goal.loop-label-init
loop-label-init c = record { utf8 = c.requires.utf8; left = λ s all. (s, all, refl) }

pub label_text-requires : goal.label_text-requires
label_text-requires c = left_shown _ _ (drop (c.loop-label.label-index + 1) c.args.labels.now) _ _ _
    (left_from c.args.labels.now c.loop-label.label-index c.label-item.result c.loop-label-test.true c.label-item.is)
    (c.loop-label.invariant.left c.requires.printed.0 c.requires.printed.1)

pub loop-label-preserved : goal.loop-label-preserved
loop-label-preserved c =
    let grown : c.append_text.new.bytes.items ≡ (c.loop-label.bytes.items ++ 32 ∷ []) ++ c.label_text.result.now =
    c.in_ok-append_text.ensures ∙ ap (λ b. b ++ c.label_text.result.now) c.in_ok-push.ensures.items in
    let blank : IsUtf8 (32 ∷ []) = IsUtf8-from_ascii _ (IsAscii-cons 32 [] (omega arith) IsAscii-nil) in
    record {
      utf8 = subst IsUtf8 (sym grown) (IsUtf8-append _ _ (IsUtf8-append _ _ c.loop-label.invariant.utf8 blank) c.label_text.utf8);
      left = λ s all. left_behind _ _ _ _ _ _ _ _
          (left_from c.args.labels.now c.loop-label.label-index c.label-item.result c.loop-label-test.true c.label-item.is)
          c.label_text.ensures grown (c.loop-label.invariant.left s all);
    }

pub returns : goal.returns
returns c =
    let same : string_bytes c.unwrap.result ≡ c.loop-label.bytes.items = search (rules, c.from_utf8.ensures.ok, c.unwrap.ensures) in
    λ s all. same ∙ left_none _ c.args.labels.now c.loop-label.label-index _ _ c.loop-label-test.false (c.loop-label.invariant.left s all)
