use Rattle.std.proofs.Common.{◌≡◌, ◌++◌, length, drop, string_bytes}
use Rattle.market.specs.Plays.{state_of}
use Rattle.day.specs.Day.{play}
use Rattle.day.proofs.play.write_calls.Given as goal

abbrev pub invariant-loop-numbered : goal.invariant-loop-numbered
invariant-loop-numbered g l =
    let hours = g.C.Calendar.hours l.initial.market.calendar in
    record {
      text : string_bytes l.out ++ play hours (drop l.numbered-index l.calls) (state_of l.market) ≡ string_bytes l.initial.out ++ play hours l.calls (state_of l.initial.market);
      same : l.market.calendar ≡ l.initial.market.calendar;
      room : length l.tape ≡ 1024;
    }
