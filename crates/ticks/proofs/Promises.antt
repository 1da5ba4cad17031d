-- The promises of specs/Promises.antt, each under its name (AlwaysInOrder in Order.antt, EnoughRecords in Records.antt, WeightInWords in
-- Weights.antt and PlainIsCarried in Plain.antt). Assumes nothing.
use Prim.Native.Nat.{ℕ, ◌+◌, ◌≤◌, ◌<◌}
use mathlib.Core.Bool.{Bool, true, false}
use mathlib.Core.Path.{◌≡◌, refl, sym, ap, ◌∙◌}
use mathlib.Core.List.{List}
use native.Mathlib.Nat.{mul-le-mul_left}
use native.Mathlib.Omega.{arith}
use lib.Dec.{leb}
use borrow.Author.Tests.{leb-true, leb-false}
use Rattle.language.specs.Term.{rules, Term, nil}
use Rattle.language.specs.Setting.{Setting}
use Rattle.language.specs.Scope.{s_fun}
use Rattle.language.specs.Run.{Run, count}
use Rattle.language.specs.Image.{image, carried}
use Rattle.language.specs.Read.{read, accepted}
use Rattle.language.proofs.Clash.{never}
use Rattle.language.proofs.Determinism.{same_run}
use Rattle.meaning.specs.Promises.{applications, Comes}
use Rattle.meaning.proofs.Scopes.{keep}
use Rattle.meaning.proofs.Values.{run_value, run_scoped}
use Rattle.meaning.proofs.Forms.{k_scoped, to_scoped, passing_scoped}
use Rattle.meaning.proofs.Promises.{demand3_of_words, converse_of_words}
use Rattle.trust.proofs.Accepted.{accepted_closed, accepted_rule}
use Rattle.ticks.specs.Upto.{a_call, rule_none}
use Rattle.ticks.specs.Value.{holds}
use Rattle.ticks.specs.Tick.{Closure, as_term, as_terms, c_nil, sizeᶜ, turn, Outcome, finished, out_of_ration, no_rule, no_record, tick_from, tick}
use Rattle.ticks.specs.Promises.{ComesIn, Reaches, Runnable, ImagesAreFlat, ImagesAreRunnable, needed, Finished, FinishedExactly}
use Rattle.ticks.specs.Promises.{OutOfRationExactly, NoRuleExactly}
use Rattle.ticks.specs.Promises.{NoRecordExactly, NoRuleNoValue, NeverRunsOut, RunsOutBelow, LargerRation, MoreRecords, FinishedStays}
use Rattle.ticks.specs.Promises.{RuleFinishes, FinishedIsRule, NoRuleNoDecision, RuleNeverRunsOut, ClosedValue, PlainFinishes, PlainIsRule}
use Rattle.ticks.specs.Promises.{EnoughRecordsInWords, EnoughFinishes}
use Rattle.ticks.proofs.Flat.{image_flat}
use Rattle.ticks.proofs.Points.{before}
use Rattle.ticks.proofs.Closures.{put, Fits, g_nil}
use Rattle.ticks.proofs.Turns.{Turned, turn_fits}
use Rattle.ticks.proofs.Ticks.{Says, says_finished, says_out, says_none, spend_says, next_says, from_enough, next_enough, from_not_full}
use Rattle.ticks.proofs.Ticks.{next_not_full}
use Rattle.ticks.proofs.Ticks.{from_short, next_short, spend_same, next_larger, needs_larger, call_before_none}
use Rattle.ticks.proofs.Records.{enough_records}
use Rattle.ticks.proofs.Weights.{weight_in_words}
use Rattle.ticks.proofs.Plain.{plain_is_carried}

pub images_are_flat : ImagesAreFlat
images_are_flat t = image_flat t

pub images_are_runnable : ImagesAreRunnable
unfolding image
images_are_runnable t h =
    record { closed = to_scoped (passing_scoped h 0 0 (omega arith)) (s_fun (k_scoped 0 1 (0 + 0 + 0) (omega arith))); flat = image_flat t }

-- the run of a closed flat image, with nothing bound
fits : {t : Term} → Runnable t → Fits c_nil c_nil t
unfolding sizeᶜ
fits h = record { flat = h.flat; scoped = h.closed; good_k = g_nil; good_x = g_nil }

shut : {t : Term} → Runnable t → put c_nil c_nil t ≡ t
unfolding as_terms
shut h = keep nil nil h.closed 0 0 (omega arith) (omega arith)

tick_says : {t : Term} (r l : ℕ) → Runnable t → Says t r 0 (tick r l t)
unfolding tick tick_from
tick_says {t} r l h = spend_says _ l (λ l'. next_says r 0 l' turned)
  where
    turned : Turned t (turn t c_nil c_nil).end
    turned = rw (shut h) at (turn_fits (fits h))

-- the records that are needed
module _ (r l : ℕ) (t : Term) where
  tick_enough : (l' : ℕ) → needed r t ≤ l → needed r t ≤ l' → tick r l t ≡ tick r l' t
  unfolding tick needed
  tick_enough l' h h' = let s = turn t c_nil c_nil in from_enough r 0 s (next_enough r 0 s.end) l l' h h'

  tick_not_full : needed r t ≤ l → tick r l t ≡ no_record → ⊥
  unfolding tick needed
  tick_not_full h q = let s = turn t c_nil c_nil in from_not_full r 0 s (next_not_full r 0 s.end) l h q

  tick_short : l < needed r t → tick r l t ≡ no_record
  unfolding tick needed
  tick_short h = let s = turn t c_nil c_nil in from_short r 0 s (next_short r 0 s.end) l h

-- there are enough records where the reply is not 13
tick_needs : (r l : ℕ) (t : Term) → (tick r l t ≡ no_record → ⊥) → needed r t ≤ l
tick_needs r l t h = by (leb (needed r t) l) refl
  where
    by : (e : Bool) → leb (needed r t) l ≡ e → needed r t ≤ l
    by true p = leb-true (needed r t) l p
    by false p = absurd (h (tick_short r l t (leb-false (needed r t) l p)))

needed_larger : (r r' : ℕ) (t : Term) → r ≤ r' → needed r t ≤ needed r' t
unfolding needed
needed_larger r r' t h = omega (arith, needs_larger r r' (turn t c_nil c_nil).end h)

pub no_record_exactly : NoRecordExactly
no_record_exactly t r l = ((λ q. by (leb (needed r t) l) refl q), tick_short r l t)
  where
    by : (e : Bool) → leb (needed r t) l ≡ e → tick r l t ≡ no_record → l < needed r t
    by true p q = absurd (tick_not_full r l t (leb-true (needed r t) l p) q)
    by false p q = leb-false (needed r t) l p

pub larger_ration : LargerRation
unfolding tick tick_from
larger_ration t r r' l h k = let s = turn t c_nil c_nil in spend_same s.records l (λ i q. next_larger r r' 0 i s.end h q) k

pub more_records : MoreRecords
more_records t r l l' h k = let e = tick_needs r l t k in tick_enough r l' t l (omega arith) e

pub finished_stays : FinishedStays
finished_stays t r r' l l' n c h k q =
    let p = more_records t r l l' k (λ e. never cc) ∙ q in larger_ration t r r' l' h (λ u e. never cc) ∙ p

pub no_rule_no_value : NoRuleNoValue
no_rule_no_value t v n p r = (before p.point r).applies refl

-- what a reply says, and that it stays under a larger ration
of_finished : {t : Term} {r n : ℕ} {c : Closure} → Says t r 0 (finished c n) → ComesIn t (as_term c) n × (n ≤ r)
of_finished (says_finished m d h e) = (record { run = d.run; in_calls = omega arith }, omega arith)

stays : (t : Term) (n r l : ℕ) {o : Outcome} → n ≤ r → tick n l t ≡ o → ((u : ℕ) → o ≡ out_of_ration u → ⊥) → tick r l t ≡ o
stays t n r l h q k = larger_ration t n r l h (λ u e. k u (sym q ∙ e)) ∙ q

-- no call comes next after a point at which no rule applies
ordered : {t : Term} (r n : ℕ) → Runnable t → Reaches t a_call r → Reaches t rule_none n → r < n
ordered r n h p q = call_before_none r n (fits h) (rw (shut h) p) (rw (shut h) q)

pub out_of_ration_exactly : OutOfRationExactly
out_of_ration_exactly t r l u h = (forth, back)
  where
    says : Says t r 0 (out_of_ration u) → (u ≡ r) × Reaches t a_call r
    says (says_out p e) = (omega arith, p)

    forth : tick r l t ≡ out_of_ration u → (u ≡ r) × Reaches t a_call r × (needed r t ≤ l)
    forth q = let (e, p) = says (rw q at (tick_says r l h)) in (e, p, tick_needs r l t (λ e'. never cc))

    by : Reaches t a_call r → needed r t ≤ l → (o : Outcome) → tick r l t ≡ o → Says t r 0 o → tick r l t ≡ out_of_ration r
    by p d (finished c m) q s =
        let (c', k) = of_finished s in let b = before p.point c'.run in absurd (omega (arith, b.on, p.in_calls, c'.in_calls))
    by p d (out_of_ration m) q (says_out p' e) = let x : m ≡ r = omega arith in q ∙ ap out_of_ration x
    by p d no_rule q (says_none n p' k) = let z = ordered r n h p p' in absurd (omega arith)
    by p d no_record q s = absurd (tick_not_full r l t d q)

    back : (u ≡ r) × Reaches t a_call r × (needed r t ≤ l) → tick r l t ≡ out_of_ration u
    back (e, p, d) = by p d (tick r l t) refl (tick_says r l h) ∙ ap out_of_ration (sym e)

-- the point at which a call comes next is before the end of the run
pub never_runs_out : NeverRunsOut
never_runs_out t v r l n u h c k q =
    let (e, p, d) = (out_of_ration_exactly t r l u h).0 q in let b = before p.point c.run in omega (arith, b.on, p.in_calls, c.in_calls)

pub finished_exactly : FinishedExactly
finished_exactly t v r l n h = (forth, back)
  where
    forth : Finished r l t v n → ComesIn t v n × (n ≤ r) × (needed n t ≤ l)
    forth f =
        let (c, k) = of_finished (rw f.is at (tick_says r l h)) in
        let e = f.is in
        let d = tick_needs r l t (λ q. never cc) in
        (rw f.stands at c, k, omega (arith, needed_larger n r t k))

    by : ComesIn t v n → needed n t ≤ l → (o : Outcome) → tick n l t ≡ o → Says t n 0 o → (c : Closure) × (as_term c ≡ v) × (tick n l t ≡ finished c n)
    by c d (finished c' m) q s =
        let c'' = (of_finished s).0 in
        let (p, e) = same_run c''.run c.run in
        let x : m ≡ n = sym c''.in_calls ∙ (ap (λ y. y.calls) e ∙ c.in_calls) in
        (c', p, q ∙ ap (finished c') x)
    by c d (out_of_ration m) q s = absurd (never_runs_out t v n l n m h c (omega arith) q)
    by c d no_rule q (says_none m p k) = absurd (no_rule_no_value t v m p c.run)
    by c d no_record q s = absurd (tick_not_full n l t d q)

    back : ComesIn t v n × (n ≤ r) × (needed n t ≤ l) → Finished r l t v n
    back (c, k, d) =
        let (x, p, q) = by c d (tick n l t) refl (tick_says n l h) in record { value = x; stands = p; is = stays t n r l k q (λ u e. never cc) }

pub no_rule_exactly : NoRuleExactly
no_rule_exactly t r l h = (forth, back)
  where
    says : needed r t ≤ l → Says t r 0 no_rule → (n : ℕ) × Reaches t rule_none n × (n ≤ r) × (needed n t ≤ l)
    says d (says_none n p k) = (n, p, k, omega (arith, needed_larger n r t k))

    forth : tick r l t ≡ no_rule → (n : ℕ) × Reaches t rule_none n × (n ≤ r) × (needed n t ≤ l)
    forth q = says (tick_needs r l t (λ e. never cc)) (rw q at (tick_says r l h))

    by : (n : ℕ) → Reaches t rule_none n → needed n t ≤ l → (o : Outcome) → tick n l t ≡ o → Says t n 0 o → tick n l t ≡ no_rule
    by n p d (finished c m) q s = absurd (no_rule_no_value t (as_term c) n p (of_finished s).0.run)
    by n p d (out_of_ration m) q (says_out p' e) = let z = ordered n n h p' p in absurd (omega arith)
    by n p d no_rule q s = q
    by n p d no_record q s = absurd (tick_not_full n l t d q)

    back : (n : ℕ) × Reaches t rule_none n × (n ≤ r) × (needed n t ≤ l) → tick r l t ≡ no_rule
    back (n, p, k, d) = stays t n r l k (by n p d (tick n l t) refl (tick_says n l h)) (λ u e. never cc)

pub runs_out_below : RunsOutBelow
runs_out_below t v r l n h c k d = by (tick r l t) refl (tick_says r l h)
  where
    by : (o : Outcome) → tick r l t ≡ o → Says t r 0 o → tick r l t ≡ out_of_ration r
    by (finished c' m) q s =
        let (x, i) = of_finished s in
        let e = ap (λ y. y.calls) (same_run x.run c.run).1 in
        absurd (omega (arith, x.in_calls, c.in_calls))
    by (out_of_ration m) q (says_out p e) = let x : m ≡ r = omega arith in q ∙ ap out_of_ration x
    by no_rule q (says_none m p i) = absurd (no_rule_no_value t v m p c.run)
    by no_record q s = absurd (tick_not_full r l t d q)

-- of rules
module _ (S : Setting) (ws : List ℕ) (t : Term) (e : read S ws ≡ accepted t) where
  runnable : Runnable (image t)
  runnable = images_are_runnable t (accepted_closed S ws t e)

  comes : {v : Term} (x : Run rules t v) → ComesIn (image t) (carried v) (applications (count x))
  comes {v} x = let c = (demand3_of_words S ws t v e x).comes in record { run = c.run; in_calls = c.in_calls }

pub rule_finishes : RuleFinishes
rule_finishes S ws t v r l e x k d =
    (finished_exactly (image t) (carried v) r l (applications (count x)) (runnable S ws t e)).1 (comes S ws t e x, k, d)

pub finished_is_rule : FinishedIsRule
finished_is_rule S ws t w r l n e f =
    let c = ((finished_exactly (image t) w r l n (runnable S ws t e)).0 f).0 in
    let k = count c.run in
    let z : Comes (image t) w n k.lets k.matches = record { run = c.run; in_calls = c.in_calls; in_lets = refl; in_matches = refl } in
    let (v, p, x) = converse_of_words S ws t w n k.lets k.matches e z in
    (v, p, x.run, x.in_calls)

pub no_rule_no_decision : NoRuleNoDecision
no_rule_no_decision S ws t v r l e q x =
    let (n, p, k, d) = (no_rule_exactly (image t) r l (runnable S ws t e)).0 q in no_rule_no_value (image t) (carried v) n p (comes S ws t e x).run

pub rule_never_runs_out : RuleNeverRunsOut
rule_never_runs_out S ws t v r l u e x k q =
    never_runs_out (image t) (carried v) r l (applications (count x)) u (runnable S ws t e) (comes S ws t e x) k q

pub closed_value : ClosedValue
closed_value t v r l n h f = let c = ((finished_exactly t v r l n h).0 f).0 in (run_value c.run, run_scoped c.run h.closed)

pub plain_finishes : PlainFinishes
plain_finishes S ws t v r l e x q k d = rw (plain_is_carried.itself v (run_value x) q) at (rule_finishes S ws t v r l e x k d)

pub plain_is_rule : PlainIsRule
plain_is_rule S ws t w r l n e f q =
    let (v, p, x, i) = finished_is_rule S ws t w r l n e f in
    let z = run_value x in
    let same : w ≡ v = p ∙ plain_is_carried.itself v z (sym (plain_is_carried.holds_same v z) ∙ (ap holds (sym p) ∙ q)) in
    rw same (x, i)

pub enough_records_in_words : EnoughRecordsInWords
enough_records_in_words S ws t r f e =
    let h = weight_in_words t (accepted_rule S ws t f e).ranged in omega (arith, enough_records (image t) r, mul-le-mul_left (r + 1) h)

pub enough_finishes : EnoughFinishes
enough_finishes S ws t v r l f e x k d =
    rule_finishes S ws t v r l e x k (omega (arith, enough_records_in_words S ws t (applications (count x)) f e))
