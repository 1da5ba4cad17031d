-- The worked rules run as the table says: both runs of each are found by computing, and each number is compared with the table's.
-- Assumes nothing.
use Prim.Native.Nat.{ℕ}
use mathlib.Core.Path.{◌≡◌, refl, sym, ap}
use mathlib.Core.List.{List, [], ◌∷◌}
use mathlib.Core.Option.{Option, some, none}
use Rattle.language.specs.Term.{rules, images, Term, size}
use Rattle.language.specs.Setting.{in_version}
use Rattle.language.specs.Words.{words}
use Rattle.language.specs.Sub.{sub}
use Rattle.language.specs.Run.{atom, enters, rev, itself, took, Counts, count}
use Rattle.language.specs.Image.{downto, passing, carried, image}
use Rattle.language.specs.Kinds.{known, head_of}
use Rattle.language.specs.Dead.{dead}
use Rattle.language.specs.Read.{Reading, accepted, refused, then, made, second, number, many, unlike, arms_of, opened, term, closed, ended, read}
use Rattle.language.proofs.Eval.{levels, Ran, eval}
use Rattle.meaning.specs.Promises.{applications}
use Rattle.language.specs.Cases.{Each}
use Rattle.meaning.specs.Worked.{Row, ran, Agrees, WorkedRuns}
use Rattle.meaning.proofs.Steps.{comes}

-- what is compared: the value and the counts of the rule's run; the value, the calls, the lets and the matches of the image's; and the sum
abbrev Seen : Type 0
Seen = List ℕ × Counts × Term × ℕ × ℕ × ℕ × ℕ

abbrev listed : {t : Term} → Row → Ran rules t → Seen
listed x r =
    let e = x.of.result in
    (e.value, x.used, carried r.value, e.applications, x.used.lets, x.used.matches, e.applications)

abbrev found : {t : Term} → Row → Ran rules t → Ran images (image t) → Seen
found x r s =
    let c = count s.run in
    (words rules r.value, count r.run, s.value, c.calls, c.lets, c.matches, applications x.used)

-- the row's side stands first: `refl` then takes the value from the table, and the runs' numbers are computed
abbrev Compared : {t : Term} → Row → Option (Ran rules t) → Option (Ran images (image t)) → Type 0
Compared x none s = ⊥
Compared x (some r) none = ⊥
Compared x (some r) (some s) = listed x r ≡ found x r s

abbrev Computed : Row → Reading → Type 0
Computed x (accepted t) = Compared x (eval rules levels t) (eval images levels (image t))
Computed x (refused e p) = ⊥

compared : (x : Row) (t : Term) → read (in_version x.of.version) x.of.rule ≡ accepted t → (r : Option (Ran rules t)) (s : Option (Ran images (image t)))
    → Compared x r s → Agrees x
compared x t e none s h = absurd h
compared x t e (some r) none h = absurd h
compared x t e (some r) (some s) h = record {
  term = t;
  reads = e;
  result = r.value;
  run = r.run;
  value_is = sym (ap (λ y. y.0) h);
  used_is = sym (ap (λ y. y.1) h);
  image_comes = rw (ap (λ y. y.2) h) (comes s.run (sym (ap (λ y. y.3) h), sym (ap (λ y. y.4) h), sym (ap (λ y. y.5) h)));
  sum_is = ap (λ y. y.6) h;
}

computed : (x : Row) (g : Reading) → read (in_version x.of.version) x.of.rule ≡ g → Computed x g → Agrees x
computed x (accepted t) e h = compared x t e (eval rules levels t) (eval images levels (image t)) h
computed x (refused n p) e h = absurd h

all_computed : (xs : List Row) → Each (λ x. Computed x (read (in_version x.of.version) x.of.rule)) xs → Each Agrees xs
all_computed [] h = tt
all_computed (x ∷ xs) h = (computed x (read (in_version x.of.version) x.of.rule) refl h.0, all_computed xs h.1)

pub worked_runs : WorkedRuns
unfolding read known closed ended term then made second number many unlike dead arms_of opened head_of words image passing downto atom size sub enters rev itself took eval count
worked_runs = all_computed ran (refl, (refl, (refl, (refl, (refl, (refl, (refl, (refl, (refl, (refl, (refl, (refl, (refl, (refl, (refl, (refl, (refl, (refl, (refl, (refl, (refl, (refl, (refl, (refl, (refl, (refl, (refl, (refl, (refl, tt)))))))))))))))))))))))))))))
