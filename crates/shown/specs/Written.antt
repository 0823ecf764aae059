-- The words in which spans, alarms and names are shown. Assumes nothing: these are definitions.
use Rattle.std.specs.Prelude.{ℕ, List, [], ◌∷◌, ◌++◌, codes, filter}
use Rattle.std.specs.Fmt.{decimal, signed_decimal}
use Rattle.std.specs.List.{flat_map, range_with_len}
use Rattle.faults.specs.Sets.{gauge_set}
use Rattle.shown.specs.declared.kinds.Names.{Names}
use Rattle.shown.specs.declared.kinds.End.{End}
use Rattle.shown.specs.declared.kinds.End.TheVariants as end
use Rattle.shown.specs.declared.kinds.Span.{Span}
use Rattle.shown.specs.declared.kinds.Span.TheVariants as span
use Rattle.shown.specs.declared.kinds.Alarm.{Alarm}
use Rattle.shown.specs.declared.kinds.Alarm.TheVariants as alarm

abbrev pub written_end : End → List ℕ
written_end (end.At c) = signed_decimal c
written_end end.Open = codes "none"

abbrev pub written_span : Span → List ℕ
written_span span.Nothing = codes "none"
written_span (span.Ends low high) = written_end low ++ (codes " " ++ written_end high)

abbrev pub written_alarm : Alarm → List ℕ
written_alarm alarm.Off = codes "off"
written_alarm alarm.On = codes "on"
written_alarm alarm.Sure = codes "sure"

-- Numbers, parted by blanks, or `none` where there are none.
abbrev pub blank_number : ℕ → List ℕ
blank_number n = codes " " ++ decimal n

abbrev pub written_numbers : List ℕ → List ℕ
written_numbers [] = codes "none"
written_numbers (n ∷ rest) = decimal n ++ flat_map blank_number rest

-- The named gauges, the smallest first.
abbrev pub written_names : Names → List ℕ
written_names names = written_numbers (filter (gauge_set names.gauges) (range_with_len 0 16))
