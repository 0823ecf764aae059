use Rattle.std.proofs.Common.{◌≡◌, true, false, [], ◌∷◌, ◌++◌, refl, sym, ap, ◌∙◌, subst, append-nil, arith, rules, tests}
use Rattle.std.specs.Fmt.{decimal}
use Rattle.std.proofs.Output.{has_written_append, has_written_of_eq, has_written_to_eq}
use Rattle.std.proofs.lemmas.Iterator.{first_from_Range}
use Rattle.faults.specs.Sets.{gauge_set}
use Rattle.shown.specs.Written.{written_numbers}
use Rattle.shown.proofs.Writing.{below, First, first_none, first_below, first_alone, more_passes, more_passed_over, words_more}
use Rattle.shown.proofs.written.NamesDisplay.fmt.Goals as goal
use Rattle.shown.proofs.written.NamesDisplay.fmt.Goals.{then-contains+in_ok-write-2, else-contains}

pub returns-in_default-clause-writes : goal.returns-in_default-clause-writes
returns-in_default-clause-writes g c =
    let set = gauge_set c.args.self.now.gauges in
    let found : First set c.find.result = first_from_Range _ _ _ c.find.result (λ k. set k ≡ true) (λ k. set k ≡ false)
    c.find.ensures.ran (λ x q k. search (rules, tests)) (λ x q k. search (rules, tests)) in
    λ plain ok. has_written_of_eq _ _ _ _ _ (sym (ap written_numbers (first_none set c.find.result found c.in_default.is)))
    (c.write.ensures.writes plain ok)

-- the first of the gauges, where there is one
found : (g : _) (c : goal.In_ok-write g) → First (gauge_set c.args.self.now.gauges) c.find.result
found g c =
    let set = gauge_set c.args.self.now.gauges in
    first_from_Range _ _ _ c.find.result (λ k. set k ≡ true) (λ k. set k ≡ false) c.find.ensures.ran
    (λ x q k. search (rules, tests)) (λ x q k. search (rules, tests))

pub overflow_step-gauge : goal.overflow_step-gauge
overflow_step-gauge g c =
    let few = first_below (gauge_set c.args.self.now.gauges) c.find.result c.in-Some.first (found g c) c.in-Some.is in search rules

pub loop-gauge-init : goal.loop-gauge-init
loop-gauge-init g c =
    let set = gauge_set c.args.self.now.gauges in (
      first_below set c.find.result c.in-Some.first (found g c) c.in-Some.is,
      [],
      first_alone set c.find.result c.in-Some.first (found g c) c.in-Some.is,
      λ plain. has_written_of_eq _ _ _ _ _ (sym (append-nil (decimal c.in-Some.first))) (search rules),
    )

pub loop-gauge-preserved : goal.loop-gauge-preserved
loop-gauge-preserved g c =
    let set = gauge_set c.args.self.now.gauges in
    let so_far = c.loop-gauge.invariant in
    let first = c.in-Some.first in
    let n = c.loop-gauge.gauge-counter in
    elim c.if-contains.branch [
      | then-contains+in_ok-write-2 w ↦ (
        so_far.0,
        so_far.1 ++ (n ∷ []),
        more_passes set first n so_far.1 (sym c.contains.ensures ∙ w.if-contains.true) so_far.2,
        λ plain. has_written_of_eq _ _ _ _ _ (words_more (decimal first) so_far.1 n)
            (has_written_append _ _ _ _ _ _ (so_far.3 plain)
            (has_written_to_eq _ _ _ _ _ w.f-is (w.in_ok-write-2.ensures.writes (so_far.3 plain).plain refl))),
      )
      | else-contains w ↦ (
        so_far.0,
        so_far.1,
        more_passed_over set first n so_far.1 (sym c.contains.ensures ∙ w.if-contains.false) so_far.2,
        λ plain. has_written_to_eq _ _ _ _ _ w.f-is (so_far.3 plain),
      )
    ]

pub returns-clause-writes : goal.returns-clause-writes
returns-clause-writes g c =
    let set = gauge_set c.args.self.now.gauges in
    let so_far = c.loop-gauge.invariant in
    let end : c.loop-gauge.gauge-counter ≡ 16 = let few = so_far.0 in grind arith in
    let all : below set 16 ≡ c.in-Some.first ∷ so_far.1 = subst (λ k. below set k ≡ c.in-Some.first ∷ so_far.1) end so_far.2 in
    λ plain ok. has_written_of_eq _ _ _ _ _ (sym (ap written_numbers all)) (so_far.3 plain)
