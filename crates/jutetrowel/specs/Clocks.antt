-- How the clocks' answers cross: the times, or zeros with a refusal's number and place. Assumes
-- nothing.
use Rattle.std.specs.Prelude.{Err, Ok, Result}
use Rattle.std.specs.Float.Ieee.{Float}
use Rattle.maps.specs.declared.ionosphere.clocks.HourTimes.{HourTimes}
use Rattle.base.specs.declared.refusal.Refusal.{Refusal}
use Rattle.maps.specs.declared.ionosphere.clocks.Shifted.{Shifted}
use Rattle.base.specs.Refusal.{report_of}
use Rattle.base.specs.Single.{decimal}
use Rattle.jutetrowel.specs.declared.clocks.ClockAnswer.{ClockAnswer}
use Rattle.jutetrowel.specs.declared.clocks.HoursAnswer.{HoursAnswer}
use Rattle.jutetrowel.specs.declared.clocks.LocalAnswer.{LocalAnswer}

unfoldable pub clock_answer : Result Shifted Refusal → ClockAnswer
clock_answer (Ok x) = record { time = x.time; day = x.day; number = 0; place = 0 }
clock_answer (Err why) =
    record { time = decimal 0 1; day = decimal 0 1; number = (report_of why).0; place = (report_of why).1 }

unfoldable pub hours_answer : Result HourTimes Refusal → HoursAnswer
hours_answer (Ok x) = record { gmt = x.gmt; lmt_tx = x.lmt_tx; gmtr = x.gmtr; number = 0; place = 0 }
hours_answer (Err why) =
    record {
      gmt = decimal 0 1;
      lmt_tx = decimal 0 1;
      gmtr = decimal 0 1;
      number = (report_of why).0;
      place = (report_of why).1;
    }

unfoldable pub local_answer : Result Float Refusal → LocalAnswer
local_answer (Ok x) = record { time = x; number = 0; place = 0 }
local_answer (Err why) = record { time = decimal 0 1; number = (report_of why).0; place = (report_of why).1 }
