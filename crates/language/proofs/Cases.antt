-- The worked rules A to N, by one test that computes over the whole table: each reply is compared, and each run is found and compared.
-- Assumes nothing.
use Prim.Native.Nat.{ℕ}
use mathlib.Core.Path.{◌≡◌, refl, ap, ap₂}
use mathlib.Core.Bool.{Bool, true, false, ◌&&◌}
use mathlib.Core.List.{List, [], ◌∷◌}
use mathlib.Core.Option.{Option, some, none}
use lib.Dec.{T, eqb, eqb→eq}
use mir.Facts.{and_yes}
use lib.ListN.{replicate}
use Rattle.language.specs.Term.{images, Term, size}
use Rattle.language.specs.Words.{words}
use Rattle.language.specs.Sub.{sub}
use Rattle.language.specs.Run.{atom, enters, rev, itself, took, count}
use Rattle.language.specs.Image.{downto, passing, image}
use Rattle.language.specs.Kinds.{known, head_of}
use Rattle.language.specs.Dead.{dead}
use Rattle.language.specs.Read.{Reading, accepted, refused, then, made, second, number, many, unlike, arms_of, opened, term, closed, ended, read}
use Rattle.language.specs.Calls.{Reply, success, refusal, filled, written}
use Rattle.language.specs.Cases.{Result, Case, Said, Prints, ComesTo, read_in, Meets, worked, Each, WorkedRules}
use Rattle.language.proofs.Eval.{levels, Ran, eval}

pub same : List ℕ → List ℕ → Bool
same [] [] = true
same [] (y ∷ ys) = false
same (x ∷ xs) [] = false
same (x ∷ xs) (y ∷ ys) = eqb x y && same xs ys

pub same_is : (xs ys : List ℕ) → T (same xs ys) → xs ≡ ys
unfolding same
same_is [] [] h = refl
same_is [] (y ∷ ys) h = absurd h
same_is (x ∷ xs) [] h = absurd h
same_is (x ∷ xs) (y ∷ ys) h = let p = and_yes (eqb x y) (same xs ys) h in ap₂ ◌∷◌ (eqb→eq x y p.0) (same_is xs ys p.1)

same_reply : Reply ℕ → Reply ℕ → Bool
same_reply (success m) (success n) = eqb m n
same_reply (success m) (refusal e p) = false
same_reply (refusal e p) (success n) = false
same_reply (refusal e p) (refusal f q) = eqb e f && eqb p q

same_reply_is : (r q : Reply ℕ) → T (same_reply r q) → r ≡ q
unfolding same_reply
same_reply_is (success m) (success n) h = ap success (eqb→eq m n h)
same_reply_is (success m) (refusal e p) h = absurd h
same_reply_is (refusal e p) (success n) h = absurd h
same_reply_is (refusal e p) (refusal f q) h =
    let b = and_yes (eqb e f) (eqb p q) h in ap₂ refusal (eqb→eq e f b.0) (eqb→eq p q b.1)

-- what is said of a case, by a test and a law that turns the test into the fact
said : {A : Type 0} → Option A → (A → Bool) → Bool
said none f = true
said (some a) f = f a

said_is : {A : Type 0} {P : A → Type 0} (o : Option A) (f : A → Bool) → ((a : A) → T (f a) → P a) → T (said o f) → Said o P
unfolding said
said_is none f law h = tt
said_is (some a) f law h = law a h

printing : Reading → List ℕ → Bool
unfolding same
printing (accepted t) ws = same (words images (image t)) ws
printing (refused e p) ws = false

printing_is : (g : Reading) (ws : List ℕ) → T (printing g ws) → Prints g ws
unfolding printing
printing_is (accepted t) ws h = same_is (words images (image t)) ws h
printing_is (refused e p) ws h = absurd h

ran : {t : Term} → Option (Ran images t) → Result → Bool
unfolding same
ran none r = false
ran (some x) r = same (words images x.value) r.value && eqb (count x.run).calls r.applications

coming : Reading → Result → Bool
unfolding ran
coming (accepted t) r = ran (eval images levels (image t)) r
coming (refused e p) r = false

coming_is : (g : Reading) (r : Result) → T (coming g r) → ComesTo g r
unfolding coming
coming_is (accepted t) r h = go (eval images levels (image t)) h
  where
    go : (o : Option (Ran images (image t))) → T (ran o r) → ComesTo (accepted t) r
    go none h = absurd h
    go (some x) h =
        let p = and_yes (same (words images x.value) r.value) (eqb (count x.run).calls r.applications) h in
        (x.value, x.run, same_is (words images x.value) r.value p.0, eqb→eq (count x.run).calls r.applications p.1)
coming_is (refused e p) r h = absurd h

test : Case → Bool
unfolding same_reply said printing coming
test c =
    same_reply (written (read_in c) (replicate c.room 0)).reply c.reply
    && (said c.printed (printing (read_in c)) && said c.result (coming (read_in c)))

test_is : (c : Case) → T (test c) → Meets c
unfolding test
test_is c h =
    let p = and_yes (same_reply (written (read_in c) (replicate c.room 0)).reply c.reply) _ h in
    let q = and_yes (said c.printed (printing (read_in c))) _ p.1 in
    record {
      replies = same_reply_is _ _ p.0;
      prints = said_is c.printed _ (printing_is (read_in c)) q.0;
      comes = said_is c.result _ (coming_is (read_in c)) q.1;
    }

tests : List Case → Bool
unfolding test
tests [] = true
tests (c ∷ cs) = test c && tests cs

tests_is : (cs : List Case) → T (tests cs) → Each Meets cs
unfolding tests
tests_is [] h = tt
tests_is (c ∷ cs) h = let p = and_yes (test c) (tests cs) h in (test_is c p.0, tests_is cs p.1)

pub worked_rules : WorkedRules
unfolding tests read known closed ended term then made second number many unlike dead arms_of opened head_of written filled words image passing downto atom size sub enters rev itself took eval count
worked_rules = tests_is worked tt
