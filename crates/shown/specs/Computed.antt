-- How the numbers of a table become what is shown. Assumes nothing: these are definitions.
use Rattle.std.specs.Prelude.{ℕ, zero, suc, ◌-◌, ◌^◌, Bool, true, false, cond, ◌&&◌, ◌||◌, List, length, ℤ, pos, ◌-ℤ◌, Some, None, vec_items, Option, int_lt, nat_lt, slice_index_or}
use Rattle.std.specs.Int.{int_max, saturate_to_bits}
use Rattle.zones.specs.Numbers.{cell}
use Rattle.faults.specs.declared.set.FaultSet.{FaultSet}
use Rattle.faults.specs.Sets.{gauge_set}
use Rattle.table.specs.declared.state.Observer.{Observer}
use Rattle.table.specs.Parts.{part}
use Rattle.shown.specs.declared.kinds.End.{End}
use Rattle.shown.specs.declared.kinds.End.TheVariants as end
use Rattle.shown.specs.declared.kinds.Span.{Span}
use Rattle.shown.specs.declared.kinds.Span.TheVariants as span
use Rattle.shown.specs.declared.kinds.Alarm.{Alarm}
use Rattle.shown.specs.declared.kinds.Alarm.TheVariants as alarm

-- A zone has no levels: its first number, the datum's own, says that the datum is below itself.
abbrev pub lacks_levels : List ℤ → Bool
lacks_levels zone = int_lt (slice_index_or zone 0 (pos 0)) (pos 0)

-- The zone at place k has none.
abbrev pub without_levels : ℕ → List ℤ → ℕ → Bool
without_levels n xs k = lacks_levels (part n k xs)

-- The larger of two, if any.
abbrev pub larger : Option ℤ → Option ℤ → Option ℤ
larger None v = v
larger (Some u) None = Some u
larger (Some u) (Some v) = Some (int_max u v)

-- The largest number of i over j in the first m zones that have levels.
abbrev pub largest : (n : ℕ) → List ℤ → (i j m : ℕ) → Option ℤ
largest n xs i j zero = None
largest n xs i j (suc m) =
    larger (largest n xs i j m) (cond (without_levels n xs m) None (Some (cell n (part n m xs) i j)))

-- None of the first m zones has levels.
abbrev pub all_without : (n : ℕ) → List ℤ → ℕ → Bool
all_without n xs zero = true
all_without n xs (suc m) = all_without n xs m && without_levels n xs m

-- Gauge a is in the sets of all those of the first m zones that have levels.
abbrev pub in_each : (n : ℕ) → List FaultSet → List ℤ → (a m : ℕ) → Bool
in_each n sets xs a zero = true
in_each n sets xs a (suc m) =
    in_each n sets xs a m && (without_levels n xs m || gauge_set (slice_index_or sets m (record { bits = 0 })) a)

-- ---- of an observer
abbrev pub largest_of : Observer → (i j : ℕ) → Option ℤ
largest_of o i j = largest o.plant.basins (vec_items o.table) i j (length (vec_items o.sets))

abbrev pub none_has_levels : Observer → Bool
none_has_levels o = all_without o.plant.basins (vec_items o.table) (length (vec_items o.sets))

-- Gauge a is in play, and in the set of each zone that has levels.
abbrev pub in_each_of : Observer → ℕ → Bool
in_each_of o a =
    (nat_lt a o.in_play && nat_lt a 16)
    && in_each o.plant.basins (vec_items o.sets) (vec_items o.table) a (length (vec_items o.sets))

-- ---- what is shown of the numbers
-- The upper end that a number says, and the lower end that the number the other way says.
abbrev pub above_end : ℤ → End
above_end v = cond (int_lt v (pos (2 ^ 63 - 1))) (end.At v) end.Open

abbrev pub below_end : ℤ → End
below_end v = cond (int_lt v (pos (2 ^ 63 - 1))) (end.At (saturate_to_bits 63 (pos 0 -ℤ v))) end.Open

-- The span between the largest number the other way and the largest number.
abbrev pub span_of : Option ℤ → Option ℤ → Span
span_of None high = span.Nothing
span_of (Some low) None = span.Nothing
span_of (Some low) (Some high) = span.Ends (below_end low) (above_end high)

-- An end is above a limit; whether an open one is.
abbrev pub exceeds : Bool → ℤ → End → Bool
exceeds unbounded limit (end.At c) = int_lt limit c
exceeds unbounded limit end.Open = unbounded

abbrev pub alarm_of : Span → ℤ → Alarm
alarm_of span.Nothing limit = alarm.Off
alarm_of (span.Ends low high) limit =
    cond (exceeds false limit low) alarm.Sure (cond (exceeds true limit high) alarm.On alarm.Off)
