-- The rules that come to no value, and their images. That the rule comes to none is seen from the rule; of a function that calls itself for ever, by
-- induction on its run, which would hold another of the same term. That the image comes to none is the converse of demand 3. Assumes nothing.
use Prim.Native.Nat.{ℕ}
use mathlib.Core.Bool.{false≢true}
use mathlib.Core.Path.{◌≡◌, refl}
use mathlib.Core.List.{List, [], ◌∷◌}
use Rattle.language.specs.Term.{rules, Term, var, fun, call, con, num, op, nil, cons, size}
use Rattle.language.specs.Sub.{sub}
use Rattle.language.specs.Run.{atom, v_fun, v_con, v_num, v_nil, v_cons, enters, rev, itself, took, Run, taken, built, bound, called, matched, operated, done, then}
use Rattle.language.specs.Setting.{Setting, in_version}
use Rattle.language.specs.Kinds.{known, head_of}
use Rattle.language.specs.Dead.{dead}
use Rattle.language.specs.Read.{Reading, accepted, refused, then as next, made, second, number, many, unlike, arms_of, opened, term, closed, ended, read}
use Rattle.language.specs.Cases.{Each, NoValue, EachWithoutValue}
use Rattle.language.proofs.Clash.{never}
use Rattle.language.proofs.Forms.{value_atom}
use Rattle.language.proofs.Determinism.{call_same, same_run, same_runs}
use Rattle.language.proofs.Back.{taken_all, no_call, no_call_num, unmatched, no_match, no_match_num, gives_numbers, unoperated}
use Rattle.meaning.specs.Worked.{without_value, WorkedWithoutValue}
use Rattle.meaning.proofs.Promises.{no_decision}

-- a recursive function that calls itself with what it was given, and a call of it
abbrev itself_again : Term
itself_again = fun 1 1 (call (var 1) (cons (var 0) nil))

abbrev for_ever : Term
for_ever = call itself_again (cons (con 0 nil) nil)

endless_run : {x v : Term} → Run rules x v → x ≡ for_ever → ⊥
unfolding enters size sub rev itself
endless_run (taken v_fun) p = never cc
endless_run (taken (v_con vs)) p = never cc
endless_run (taken v_num) p = never cc
endless_run (built e r) p = never cc
endless_run (bound r s) p = never cc
endless_run (matched r k s) p = never cc
endless_run (operated r g) p = never cc
endless_run (called {f} {ps} g r e s) p =
    let is : f ≡ itself_again = cc in
    let given : ps ≡ cons (con 0 nil) nil = cc in
    endless_run s
    (call_same rules e refl (same_run (rw is at g) (taken v_fun)).0 (same_runs (rw given at r) (taken_all (v_cons (v_con v_nil) v_nil))).0)

-- a constructor that is built of it
built_endless : {t : ℕ} {v : Term} → Run rules (con t (cons for_ever nil)) v → ⊥
unfolding atom
built_endless (taken x) = false≢true (value_atom x)
built_endless (built e (then r rs)) = endless_run r refl

-- operations on a number and a constructor, and on a part that never ends
operated_constructor_stuck : {o n t : ℕ} {v : Term} → Run rules (op o (cons (num n) (cons (con t nil) nil))) v → ⊥
operated_constructor_stuck r = let (a, b, e) = gives_numbers (unoperated (v_cons v_num (v_cons (v_con v_nil) v_nil)) r) in never cc

operated_endless_stuck : {o : ℕ} {s v : Term} → Run rules (op o (cons s (cons for_ever nil))) v → ⊥
operated_endless_stuck (operated (then r (then s done)) g) = endless_run s refl
operated_endless_stuck (taken y) = elim y [ ]

-- what is shown of the rule alone, and what follows for its image
abbrev Stops : Reading → Type 0
Stops (accepted t) = (v : Term) → Run rules t v → ⊥
Stops (refused e p) = ⊥

image_stops : (S : Setting) (ws : List ℕ) (g : Reading) → read S ws ≡ g → Stops g → NoValue g
image_stops S ws (accepted t) e h = (h, no_decision S ws t e h)
image_stops S ws (refused n p) e h = absurd h

images_stop : (xs : List (ℕ × List ℕ)) → Each (λ r. Stops (read (in_version r.0) r.1)) xs → EachWithoutValue xs
images_stop [] h = tt
images_stop (x ∷ xs) h = let S = in_version x.0 in (image_stops S x.1 (read S x.1) refl h.0, images_stop xs h.1)

pub worked_without_value : WorkedWithoutValue
unfolding read known closed ended term next made second number many unlike dead arms_of opened head_of size took
worked_without_value =
    images_stop without_value (
      λ v r. no_call v_nil r,
      (
        λ v r. no_match r,
        (
          λ v r. unmatched v_nil r,
          (
            λ v r. endless_run r refl,
            (
              λ v r. built_endless r,
              (λ v r. operated_constructor_stuck r, (λ v r. operated_endless_stuck r, (λ v r. no_call_num r, (λ v r. no_match_num r, tt)))),
            ),
          ),
        ),
      ),
    )
