-- An arm can be taken exactly where no arm before it in its match has its tag and arity. The value that takes it has its tag and as many arguments
-- as its arity says; and no other value could take it.
-- Assumes nothing.
use Prim.Native.Nat.{ℕ}
use mathlib.Core.Path.{◌≡◌, refl, sym, ap, ◌∙◌}
use mathlib.Core.Bool.{Bool, true, false, ◌||◌, cond}
use mathlib.Core.List.{List, [], ◌∷◌, ◌++◌, append_assoc, append-nil}
use mathlib.Core.Option.{Option, some, none as nothing}
use Rattle.language.specs.Term.{Term, Arms, con, nil, none, arm, size}
use Rattle.language.specs.Run.{v_con, v_nil, itself, both, took}
use Rattle.language.specs.Dead.{dead, behind, Taken, EachTaken}
use Rattle.language.proofs.Clash.{never}
use Rattle.language.proofs.Forms.{itself_values, size_itself, both_same, same_both}
use Rattle.trust.specs.Promises.{TakenInItsMatch}

-- the tags and arities of arms
pairs : Arms → List (ℕ × ℕ)
pairs none = []
pairs (arm t n b ps) = (t, n) ∷ pairs ps

-- `Fresh before ps`: none of the arms ps is dead, where arms with the tags and arities `before` stand before them
pub data Fresh : List (ℕ × ℕ) → Arms → Type 0 where
  f_none : {before : List (ℕ × ℕ)} → Fresh before none
  f_arm : {before : List (ℕ × ℕ)} {t n : ℕ} {b : Term} {ps : Arms} → dead t n before ≡ false → Fresh (before ++ ((t, n) ∷ [])) ps
      → Fresh before (arm t n b ps)

-- whether an arm was taken
got : Option Term → Bool
got nothing = false
got (some b) = true

missed : (o : Option Term) → got o ≡ false → o ≡ nothing
unfolding got
missed nothing h = refl
missed (some b) h = never cc

-- behind arms one of which takes such a value, and behind these alone, an arm is dead
dead_got : (t n : ℕ) (ps : Arms) → dead t n (pairs ps) ≡ got (took t n ps)
unfolding pairs dead took got
dead_got t n none = refl
dead_got t n (arm t' n' b ps) = go (both t n t' n') (dead_got t n ps)
  where
    go : (e : Bool) → dead t n (pairs ps) ≡ got (took t n ps) → (e || dead t n (pairs ps)) ≡ got (cond e (some b) (took t n ps))
    go true h = refl
    go false h = h

-- an arm that is not dead can be taken: by the constructor of its tag whose arguments are copies of one value
taken : (before : Arms) (t n : ℕ) (b : Term) → dead t n (pairs before) ≡ false → Taken before t n b
unfolding took size
taken before t n b h = record {
  tag = t;
  arguments = itself n (con 0 nil);
  value = v_con (itself_values n (v_con v_nil));
  passes = rw (size_itself n (con 0 nil)) (missed (took t n before) (sym (dead_got t n before) ∙ h));
  takes = rw (size_itself n (con 0 nil), both_same t n);
}

-- and one that can be taken is not dead: a value that it takes has its tag and its arity
not_dead : {before : Arms} {t n : ℕ} {b : Term} → Taken before t n b → dead t n (pairs before) ≡ false
unfolding took got
not_dead {before} {t} {n} {b} x = go (both x.tag (size x.arguments) t n) refl x.takes
  where
    go : (e : Bool) → both x.tag (size x.arguments) t n ≡ e → cond e (some b) nothing ≡ some b → dead t n (pairs before) ≡ false
    go true e h =
        let p = same_both x.tag (size x.arguments) t n e in
        rw (← p.0, ← p.1) (dead_got x.tag (size x.arguments) before ∙ ap got x.passes)
    go false e h = never cc

-- what is read forward, arm by arm, is what holds of each of the arms
fresh_each : (before : List (ℕ × ℕ)) (xs after : Arms) (t n : ℕ) (b : Term) → Fresh before (behind xs (arm t n b after))
    → dead t n (before ++ pairs xs) ≡ false
unfolding pairs behind
fresh_each before none after t n b (f_arm h k) = rw (append-nil before) h
fresh_each before (arm t' n' b' xs) after t n b (f_arm h k) =
    rw (← append_assoc before ((t', n') ∷ []) (pairs xs)) (fresh_each (before ++ ((t', n') ∷ [])) xs after t n b k)

each_fresh : (before : List (ℕ × ℕ)) (ps : Arms)
    → ((xs after : Arms) (t n : ℕ) (b : Term) → ps ≡ behind xs (arm t n b after) → dead t n (before ++ pairs xs) ≡ false) → Fresh before ps
unfolding pairs behind
each_fresh before none h = f_none
each_fresh before (arm t n b ps) h = f_arm (rw (append-nil before) at (h none ps t n b refl)) (each_fresh (before ++ ((t, n) ∷ [])) ps
    (λ xs after t' n' b' e. rw (append_assoc before ((t, n) ∷ []) (pairs xs)) (h (arm t n b xs) after t' n' b' (ap (arm t n b) e))))

pub each_taken : {ps : Arms} → Fresh [] ps → EachTaken ps
each_taken {ps} f before after t n b e = taken before t n b (fresh_each [] before after t n b (rw e at f))

pub taken_each : (ps : Arms) → EachTaken ps → Fresh [] ps
taken_each ps h = each_fresh [] ps (λ xs after t n b e. not_dead (h xs after t n b e))

-- what passes by the arms before an arm takes that one in the whole match
passed_by : (t n : ℕ) (before ps : Arms) → took t n before ≡ nothing → took t n (behind before ps) ≡ took t n ps
unfolding took behind
passed_by t n none ps h = refl
passed_by t n (arm t' n' b before) ps h = go (both t n t' n') h (passed_by t n before ps)
  where
    go : (e : Bool) → cond e (some b) (took t n before) ≡ nothing → (took t n before ≡ nothing → took t n (behind before ps) ≡ took t n ps)
        → cond e (some b) (took t n (behind before ps)) ≡ took t n ps
    go true h k = never cc
    go false h k = k h

pub taken_in_its_match : TakenInItsMatch
unfolding took
taken_in_its_match before after t n b x =
    passed_by x.tag (size x.arguments) before (arm t n b after) x.passes ∙ go (both x.tag (size x.arguments) t n) x.takes
  where
    go : (e : Bool) → cond e (some b) nothing ≡ some b → cond e (some b) (took x.tag (size x.arguments) after) ≡ some b
    go true h = refl
    go false h = never cc
