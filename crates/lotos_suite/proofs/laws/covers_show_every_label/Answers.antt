use Rattle.lotos_suite.proofs.laws.covers_show_every_label.Goals as goal

pub returns : goal.returns
returns c q cursor end s l seen =
    let (r, y, same, line) = end.whole s l seen in
    (r, y, same, record { line = line; whole = end.ends.clear })
