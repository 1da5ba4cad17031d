-- What records hold they go on holding: a record is written once, behind all that are in use. And what a record holds once it is written.
-- Assumes nothing.
use Prim.Native.Nat.{ℕ, zero, suc, ◌+◌, ◌≤◌, ◌<◌}
use mathlib.Core.Path.{◌≡◌, refl, ap, ◌∙◌}
use mathlib.Core.List.{List, [], ◌∷◌}
use native.Mathlib.Omega.{arith}
use lib.ListN.{length, get_or, set, length-set}
use lib.Seq.{sets, length-sets, get_or-set_same, get_or-set_other}
use Rattle.language.specs.Term.{Term, fun}
use Rattle.ticks.specs.Flat.{FlatAtom}
use Rattle.ticks.specs.Tick.{Closure, Closures, c_fun, c_num, c_cons, sizeᶜ, held}
use Rattle.output.specs.Stored.{Room, Put}
use Rattle.records.specs.Links.{record_words, low, high, links, link_at, Words, Within, found_from, Grown}
use Rattle.records.specs.Memory.{Laid, a_function, a_number, Val, v_fun, v_con, v_num, Vals, v_nil, v_cons, Env, e_nil, e_cons}

-- nothing was written
pub not_grown : {m : List ℕ} {n : ℕ} → n ≤ length m → Grown m m n n
not_grown h = record { same = λ i l. refl; long = refl; more = omega arith; room = h }

-- one growth after another
pub grown_on : {m m' m'' : List ℕ} {n n' n'' : ℕ} → Grown m m' n n' → Grown m' m'' n' n'' → Grown m m'' n n''
grown_on g h = record {
  same = λ i l. h.same i (omega (arith, g.more)) ∙ g.same i l;
  long = h.long ∙ g.long;
  more = omega (arith, g.more, h.more);
  room = omega (arith, g.long, h.room);
}

length_links : {s m : List ℕ} {n : ℕ} {rs : List ℕ} {cs : Closures} → Vals s m n rs cs → length (links rs) ≡ sizeᶜ cs + sizeᶜ cs
unfolding links sizeᶜ
length_links v_nil = refl
length_links (v_cons v vs) = omega (arith, length_links vs)

module _ {m m' : List ℕ} {n n' : ℕ} (g : Grown m m' n n') where
  within_grown : {r : ℕ} → Within r n → Within r n'
  within_grown h = record { fits = omega (arith, h.fits, g.more) }

  words_grown : {r : ℕ} {ws : List ℕ} → Within r n → length ws ≤ record_words → Words m r ws → Words m' r ws
  words_grown {r} h k w = record { is = λ i l. g.same (r + i) (omega (arith, h.fits)) ∙ w.is i l }

module _ {s m m' : List ℕ} {n n' : ℕ} (g : Grown m m' n n') where
  mutual
    pub val_grown : {r : ℕ} {c : Closure} → Val s m n r c → Val s m' n' r c
    val_grown (v_fun h w l ks xs) = v_fun (within_grown g h) (words_grown g h (omega arith) w) l (env_grown ks) (env_grown xs)
    val_grown (v_con h b e k w vs) = v_con (within_grown g h) b e k (words_grown g h (omega (arith, length_links vs)) w) (vals_grown vs)
    val_grown (v_num h w) = v_num (within_grown g h) (words_grown g h (omega arith) w)

    pub vals_grown : {rs : List ℕ} {cs : Closures} → Vals s m n rs cs → Vals s m' n' rs cs
    vals_grown v_nil = v_nil
    vals_grown (v_cons v vs) = v_cons (val_grown v) (vals_grown vs)

    pub env_grown : {h : ℕ} {cs : Closures} → Env s m n h cs → Env s m' n' h cs
    env_grown e_nil = e_nil
    env_grown (e_cons h w v e) = e_cons (within_grown g h) (words_grown g h (omega arith) w) (val_grown v) (env_grown e)

-- words that are written stand where they were written, and nothing before them changes
sets_before : (m : List ℕ) (n : ℕ) (ws : List ℕ) (i : ℕ) → i < n → get_or (sets m n ws) i 0 ≡ get_or m i 0
sets_before m n [] i h = refl
sets_before m n (w ∷ ws) i h = sets_before (set m n w) (suc n) ws i (omega arith) ∙ get_or-set_other m n i w 0 (λ e. omega arith)

sets_at : (m : List ℕ) (n : ℕ) (ws : List ℕ) (i : ℕ) → n + length ws ≤ length m → i < length ws → get_or (sets m n ws) (n + i) 0 ≡ get_or ws i 0
sets_at m n [] i h k = absurd (omega arith)
sets_at m n (w ∷ ws) zero h k =
    let e : n + 0 ≡ n = omega arith in
    rw e (sets_before (set m n w) (suc n) ws n (omega arith) ∙ get_or-set_same m n w 0 (omega arith))
sets_at m n (w ∷ ws) (suc i) h k =
    let e : n + suc i ≡ suc n + i = omega arith in
    rw e (sets_at (set m n w) (suc n) ws i (omega (arith, length-set m n w)) (omega arith))

-- a record written behind all that are in use
module _ {ws m m' : List ℕ} {n e : ℕ} (p : Put ws m n m' e) (r : Room m n record_words) (k : length ws ≤ record_words) where
  pub put_grown : Grown m m' n (n + record_words)
  put_grown = record {
    same = λ i l. ap (λ (x : List ℕ). get_or x i 0) p.holds ∙ sets_before m n ws i l;
    long = ap length p.holds ∙ length-sets m n ws;
    more = omega arith;
    room = r.fits;
  }

  pub put_words : Words m' n ws
  put_words = record { is = λ i l. ap (λ (x : List ℕ). get_or x (n + i) 0) p.holds ∙ sets_at m n ws i (omega (arith, r.fits)) l }

-- what it then holds: a binding, a function, a number
pub here : (n : ℕ) → Within n (n + record_words)
here n = record { fits = omega arith }

module _ {s m m' : List ℕ} {n e : ℕ} (r : Room m n record_words) where
  pub binds : {v h : ℕ} {c : Closure} {cs : Closures} → Put (low v ∷ high v ∷ low h ∷ high h ∷ []) m n m' e → Val s m n v c → Env s m n h cs
      → Env s m' (n + record_words) n (c_cons c cs)
  binds p v h =
      let g = put_grown p r (omega arith) in
      e_cons (here n) (put_words p r (omega arith)) (val_grown g v) (env_grown g h)

  pub closes : {at to kh xh o a : ℕ} {b : Term} {ks xs : Closures} → Put (a_function ∷ at ∷ low kh ∷ high kh ∷ low xh ∷ high xh ∷ []) m n m' e
      → Laid FlatAtom s at to (sizeᶜ ks) (sizeᶜ xs) (fun o a b) → Env s m n kh ks → Env s m n xh xs → Val s m' (n + record_words) n (c_fun o a b ks xs)
  closes p l ks xs =
      let g = put_grown p r (omega arith) in
      v_fun (here n) (put_words p r (omega arith)) l (env_grown g ks) (env_grown g xs)

  pub numbers : {i : ℕ} → Put (a_number ∷ i ∷ []) m n m' e → Val s m' (n + record_words) n (c_num i)
  numbers p = v_num (here n) (put_words p r (omega arith))

-- a reference is read as it was written
pub link_of : {m : List ℕ} {r : ℕ} {ws : List ℕ} (w : Words m r ws) (i x : ℕ) → i + 1 < length ws → get_or ws i 0 ≡ low x → get_or ws (i + 1) 0 ≡ high x
    → link_at m r i ≡ x
link_of w i x h e f = omega (arith, w.is i (omega arith), w.is (i + 1) h, e, f)

-- a variable is found
pub finds : {s m : List ℕ} {n h : ℕ} {cs : Closures} (i : ℕ) → Env s m n h cs → i < sizeᶜ cs → Val s m n (found_from m h i) (held cs i)
unfolding found_from held sizeᶜ
finds i e_nil l = absurd (omega arith)
finds zero (e_cons {v = v} h w x e) l = rw (link_of w 0 v (omega arith) refl refl) x
finds (suc i) (e_cons {k = k} h w x e) l = rw (link_of w 2 k (omega arith) refl refl) (finds i e (omega arith))
