use Rattle.std.proofs.Common.{◌-◌, take, drop, refl}
use Rattle.std.proofs.lemmas.List.{take-append-drop}
use Rattle.streams.specs.Outlet.{writer_of, written_of}
use Rattle.font_write.proofs.SinkLemmas.{front_appended}
use Rattle.font_write.proofs.outlet_sink.OutletSink.take.Goals as goal

pub returns-in-Err : goal.returns-in-Err
returns-in-Err g c =
    let sent = written_of c.put.new.self - written_of c.args.self.now in
    record {
      front = take sent c.args.bytes.now;
      is_front = record { rest = drop sent c.args.bytes.now; whole = take-append-drop sent c.args.bytes.now };
      fixed = refl;
      count = c.in-Err.ensures.prefix.counts;
      taken = c.in-Err.ensures.prefix.appends;
      shown = front_appended (g.W.Write.contents (writer_of c.args.self.now))
          (g.W.Write.contents (writer_of c.put.new.self)) sent c.args.bytes.now c.in-Err.ensures.prefix.appends;
      stopped = c.in-Err.ensures.broken;
    }
