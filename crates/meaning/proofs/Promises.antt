-- The promises of specs/Promises.antt, each under its name. Assumes nothing.
use Prim.Native.Nat.{ℕ}
use mathlib.Core.Path.{◌≡◌, refl, sym, ap, ap₂, ◌∙◌}
use mathlib.Core.Logic.{◌↔◌}
use native.Mathlib.Omega.{arith}
use Rattle.language.specs.Term.{rules, Term, Terms, con, cons}
use Rattle.language.specs.Scope.{Scoped}
use Rattle.language.specs.Image.{carried, carrieds, image}
use Rattle.language.proofs.Determinism.{same_run}
use Rattle.trust.proofs.Accepted.{accepted_closed, accepted_length}
use Rattle.sizes.proofs.Promises.{seven_times}
use Rattle.meaning.specs.Promises.{Plain, Plainᵗ, p_con, p_num, p_nil, p_cons, PlainIsCarried, RunsAreDetermined, Demand3, Demand3OfWords}
use Rattle.meaning.specs.Promises.{Comes, Finishes, FromRule, Converse, ConverseOfWords, ExactlyWhen, NoDecision, SevenTimesOfWords}
use Rattle.meaning.proofs.Values.{run_value}
use Rattle.meaning.proofs.Steps.{adjust}
use Rattle.meaning.proofs.Simulation.{image_comes}
use Rattle.meaning.proofs.Converse.{rule_comes}
use Rattle.meaning.proofs.Undo.{same_carried}

mutual
  unfolding carried

  plain_carried : {v : Term} → Plain v → carried v ≡ v
  plain_carried (p_con {t} ps) = ap (con t) (plain_carrieds ps)
  plain_carried p_num = refl

  plain_carrieds : {vs : Terms} → Plainᵗ vs → carrieds vs ≡ vs
  plain_carrieds p_nil = refl
  plain_carrieds (p_cons p ps) = ap₂ cons (plain_carried p) (plain_carrieds ps)

pub plain_is_carried : PlainIsCarried
plain_is_carried v p = plain_carried p

pub runs_are_determined : RunsAreDetermined
runs_are_determined L t v w r s = same_run r s

pub demand3 : Demand3
demand3 t v h r =
    let c = image_comes r h in
    record { comes = c; plainly = λ p. rw (plain_carried p) at c; always = λ w s. same_run s c.run }

pub demand3_of_words : Demand3OfWords
demand3_of_words S ws t v e r = demand3 t v (accepted_closed S ws t e) r

-- an image comes to one value, with one number of calls, of lets and of matches
same_numbers : {t w w' : Term} {n l m n' l' m' : ℕ} → Comes t w n l m → Comes t w' n' l' m' → (w ≡ w') × (n ≡ n') × (l ≡ l') × (m ≡ m')
same_numbers r s =
    let (p, q) = same_run r.run s.run in (
      p,
      sym r.in_calls ∙ ap (λ c. c.calls) q ∙ s.in_calls,
      sym r.in_lets ∙ ap (λ c. c.lets) q ∙ s.in_lets,
      sym r.in_matches ∙ ap (λ c. c.matches) q ∙ s.in_matches,
    )

-- the rule comes to a value, and by demand 3 the image to that value's carried form, with demand 3's numbers: these are the image's one value and its
-- numbers
pub converse : Converse
converse t w n l m h s =
    let r = rule_comes h s.run in
    let (same, in_calls, in_lets, in_matches) = same_numbers (image_comes r.run h) s in
    (r.value, sym same, record { run = r.run; in_calls = in_calls; in_lets = in_lets; in_matches = in_matches })

pub converse_of_words : ConverseOfWords
converse_of_words S ws t w n l m e s = converse t w n l m (accepted_closed S ws t e) s

-- both halves, for whatever the image comes to
pub both_ways : (t w : Term) (n l m : ℕ) → Scoped rules 0 0 t → FromRule t w n l m ↔ Comes (image t) w n l m
both_ways t w n l m h = (ahead, converse t w n l m h)
  where
    ahead : FromRule t w n l m → Comes (image t) w n l m
    ahead (v, same, f) = rw same (adjust (image_comes f.run h) (f.in_calls, f.in_lets, f.in_matches))

-- for the carried form of v the value that the rule comes to is v, as both have that carried form
pub exactly_when : ExactlyWhen
exactly_when S ws t v n l m e x = let p = both_ways t (carried v) n l m (accepted_closed S ws t e) in (λ f. p.0 (v, refl, f), λ s. back (p.1 s))
  where
    back : FromRule t (carried v) n l m → Finishes t v n l m
    back (v', same, f) = rw (same_carried x (run_value f.run) same) f

pub no_decision : NoDecision
no_decision S ws t e none w s = let r = rule_comes (accepted_closed S ws t e) s in none r.value r.run

pub seven_times_of_words : SevenTimesOfWords
seven_times_of_words S ws t e = omega (arith, (accepted_length S ws t e).0, seven_times t)
