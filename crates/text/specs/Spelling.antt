-- How an entry is written. Assumes nothing.
use Rattle.std.specs.Prelude.{◌≡◌, ℕ, List, [], ◌∷◌, ◌++◌, ℤ, codes}
use Rattle.std.specs.Fmt.{signed_decimal}
use Rattle.std.specs.List.{AllByRecursion}
use Rattle.text.specs.declared.entry.Format.{Format}
use Rattle.text.specs.declared.entry.Format.TheVariants.{WithAlarms}
use Rattle.text.specs.declared.entry.Entry.{Entry}
use Rattle.text.specs.declared.entry.Entry.TheVariants.{Basins, Gauges, Wrong, Range, Rate, Gauge, Step, Read, Show, Alarm}
use Rattle.text.specs.declared.error.Field.{Field}
use Rattle.text.specs.declared.error.Field.TheVariants as field
use Rattle.text.specs.Numbers.{Fits}

-- the entry is one of the format: an alarm in the format with alarms alone, and every other in both
abbrev pub Has : Format → Entry → Type 0
Has format (Alarm b l) = format ≡ WithAlarms
Has format e = Unit {0}

-- the word that an entry begins with
abbrev pub name : Entry → List ℕ
name (Basins n) = codes "basins"
name (Gauges n) = codes "gauges"
name (Wrong n) = codes "wrong"
name (Range b l m) = codes "range"
name (Rate b r f) = codes "rate"
name (Gauge g a b) = codes "gauge"
name Step = codes "step"
name (Read g l h) = codes "read"
name Show = codes "show"
name (Alarm b l) = codes "alarm"

-- its numbers, in their order
abbrev pub numbers : Entry → List ℤ
numbers (Basins n) = n ∷ []
numbers (Gauges n) = n ∷ []
numbers (Wrong n) = n ∷ []
numbers (Range b l m) = b ∷ l ∷ m ∷ []
numbers (Rate b r f) = b ∷ r ∷ f ∷ []
numbers (Gauge g a b) = g ∷ a ∷ b ∷ []
numbers Step = []
numbers (Read g l h) = g ∷ l ∷ h ∷ []
numbers Show = []
numbers (Alarm b l) = b ∷ l ∷ []

-- what each of them stands for; it is the same for all entries of a name
abbrev pub fields : Entry → List Field
fields (Basins n) = field.Basins ∷ []
fields (Gauges n) = field.Gauges ∷ []
fields (Wrong n) = field.Wrong ∷ []
fields (Range b l m) = field.Basin ∷ field.Least ∷ field.Most ∷ []
fields (Rate b r f) = field.Basin ∷ field.Rise ∷ field.Fall ∷ []
fields (Gauge g a b) = field.Gauge ∷ field.First ∷ field.Second ∷ []
fields Step = []
fields (Read g l h) = field.Gauge ∷ field.Low ∷ field.High ∷ []
fields Show = []
fields (Alarm b l) = field.Basin ∷ field.Limit ∷ []

-- each number after one space
abbrev pub spaced : List ℤ → List ℕ
spaced [] = []
spaced (z ∷ zs) = 32 ∷ (signed_decimal z ++ spaced zs)

-- the one form in which an entry is written
abbrev pub written : Entry → List ℕ
written e = name e ++ spaced (numbers e)

-- its numbers are values of an i64, as those of every entry of the program are
abbrev pub Fit : Entry → Type 0
Fit e = AllByRecursion Fits (numbers e)
