use Rattle.std.proofs.Common.{◌≡◌, false, map, string_bytes}
use Rattle.std.specs.Vec.Iter.{into_iter_items}
use Rattle.lotos_device.specs.WrappedDevices.{sink_of, source_of}
use Rattle.lotos_tool.proofs.UnreadWords.{from_the_start}
use Rattle.lotos_tool.proofs.process.run_process.Goals as goal

pub returns : goal.returns
returns g c =
    let from :
    source_of g.I.Read.remaining c.new-reader.result ≡ record { remaining = g.I.Read.remaining c.args.streams.input; given = 0; has_failed = false } =
    λ i. record {
      remaining = g.I.Read.remaining (c.new-reader.ensures.inner i);
      given = c.new-reader.ensures.given i;
      has_failed = c.new-reader.ensures.unfailed i;
    } in
    let to : sink_of g.O.Write.contents c.new-out.result ≡ record { written = g.O.Write.contents c.args.streams.output; has_failed = false } =
    λ i. record { written = g.O.Write.contents (c.new-out.ensures.inner i); has_failed = c.new-out.ensures.unfailed i } in (
      source_of g.I.Read.remaining c.run_args.new.reader,
      sink_of g.O.Write.contents c.run_args.new.out,
      from_the_start (λ words. map string_bytes (into_iter_items words)) c.args.args _ _ _ _ _ _ c.run_args.result from to c.run_args.ensures,
    )
