-- −view − position is the opposite of position + view in every bit but a zero's sign, since rounding takes no notice of the sign, and a square has lost it.
-- So the ray's unit vector and its norm share one root. Assumes nothing.
use Rattle.std.specs.Prelude.{ℕ, zero, suc, ◌+◌, ◌-◌, ◌*◌, ◌^◌, ◌≡◌, refl, Bool, true, false, not, ◌&&◌, cond, ◌||◌, List, ltb, Float, Some}
use Rattle.std.proofs.Common.{arith, sym, ap, ◌∙◌, ltb-true, ltb-false}
use Rattle.std.specs.Bool.{beq}
use Rattle.std.specs.Float.{nan, inf, fin, Format, binary32}
use Rattle.std.specs.Float.Ieee.{prec, emax, low, up, down, unlike, odd, units, round, neg, sum, add, sub, mul}
use Rattle.root.specs.Root.{root_of}
use Rattle.vectors.specs.Vectors.{at, plus_of, dot_of}
use Rattle.lighting.specs.Lighting.{is_scaled}
use Rattle.lighting.specs.declared.Light.{Light}
use Rattle.lighting.specs.declared.Distance.{Distance}
use Rattle.surface.specs.Steps.{offset_of, offset_norm, norm_if, ray_to}

-- a float without its sign
bare : Float → Float
bare nan = nan
bare (inf s) = inf false
bare (fin s m e) = fin false m e

bare_odd : (d : ℕ) (s : Bool) (q k l : ℕ) → bare (odd d s q k l) ≡ odd d false q k l
unfolding odd bare
bare_odd d s zero k l = refl
bare_odd d s (suc q) k l = refl

bare_cond : (b s : Bool) (x y : Float) → bare x ≡ y → bare (cond b x (inf s)) ≡ cond b y (inf false)
unfolding bare
bare_cond true s x y e = e
bare_cond false s x y e = refl

bare_units : (f : Format) (s : Bool) (q k : ℕ) → bare (units f s q k) ≡ units f false q k
unfolding units
bare_units f s q k =
    bare_cond (ltb (q * 2 ^ k) (2 ^ (low f + suc (emax f)))) s (odd (suc (prec f)) s q k (low f)) (odd (suc (prec f)) false q k (low f))
    (bare_odd (suc (prec f)) s q k (low f))

bare_round : (f : Format) (s : Bool) (num den : ℕ) → bare (round f s num den) ≡ round f false num den
unfolding round
bare_round f s num den = bare_units f s _ _

-- a sum without its sign
bare_sum : Format → Bool → ℕ → ℕ → ℕ → Float
bare_sum f alike a b c = cond alike (round f false (a + b) c) (cond (ltb a b) (round f false (b - a) c) (round f false (a - b) c))

bare_sum_lem : (f : Format) (s : Bool) (a : ℕ) (t : Bool) (b c : ℕ) → bare (sum f s a t b c) ≡ bare_sum f (beq s t) a b c
unfolding sum bare_sum bare
bare_sum_lem f s a t b c = go (beq s t) (ltb a b)
  where
    go : (p q : Bool) → bare (cond p (round f s (a + b) c) (cond q (round f t (b - a) c) (round f (s && ltb b a) (a - b) c))) ≡ cond p (round f false (a + b) c) (cond q (round f false (b - a) c) (round f false (a - b) c))
    go true q = bare_round f s (a + b) c
    go false true = bare_round f t (b - a) c
    go false false = bare_round f (s && ltb b a) (a - b) c

bare_sum_turned : (f : Format) (p : Bool) (a b c : ℕ) → bare_sum f p a b c ≡ bare_sum f p b a c
unfolding bare_sum
bare_sum_turned f true a b c = ap (λ (n : ℕ). round f false n c) (omega arith)
bare_sum_turned f false a b c = go (ltb a b) (ltb b a) refl refl
  where
    go : (q r : Bool) → ltb a b ≡ q → ltb b a ≡ r → cond q (round f false (b - a) c) (round f false (a - b) c) ≡ cond r (round f false (a - b) c) (round f false (b - a) c)
    go true true x y = absurd (omega (arith, ltb-true a b x, ltb-true b a y))
    go true false x y = refl
    go false true x y = refl
    go false false x y = ap (λ (n : ℕ). round f false n c) (omega (arith, ltb-false a b x, ltb-false b a y))

beq_turned : (s t : Bool) → beq (not s) (not t) ≡ beq t s
beq_turned true true = refl
beq_turned true false = refl
beq_turned false true = refl
beq_turned false false = refl

bare_infinities : (p s t : Bool) → p ≡ p → bare (cond p (inf s) nan) ≡ bare (cond p (inf t) nan)
unfolding bare
bare_infinities true s t e = refl
bare_infinities false s t e = refl

opposite : (f : Format) (v p : Float) → bare (sub f (neg v) p) ≡ bare (add f p v)
unfolding sub add neg bare
opposite f nan nan = refl
opposite f nan (inf t) = refl
opposite f nan (fin t n d) = refl
opposite f (inf s) nan = refl
opposite f (inf s) (inf t) = ap (λ (b : Bool). bare (cond b (inf (not s)) nan)) (beq_turned s t) ∙ bare_infinities (beq t s) (not s) t refl
opposite f (inf s) (fin t n d) = refl
opposite f (fin s m e) nan = refl
opposite f (fin s m e) (inf t) = refl
opposite f (fin s m e) (fin t n d) =
    bare_sum_lem f (not s) (m * up e * down d) (not t) (n * up d * down e) (down e * down d)
    ∙ ap (λ (b : Bool). bare_sum f b (m * up e * down d) (n * up d * down e) (down e * down d)) (beq_turned s t)
    ∙ bare_sum_turned f (beq t s) (m * up e * down d) (n * up d * down e) (down e * down d)
    ∙ ap (λ (c : ℕ). bare_sum f (beq t s) (n * up d * down e) (m * up e * down d) c) (omega arith)
    ∙ sym (bare_sum_lem f t (n * up d * down e) s (m * up e * down d) (down d * down e))

unlike_same : (s : Bool) → unlike s s ≡ false
unlike_same true = refl
unlike_same false = refl

square_bare : (f : Format) (x : Float) → mul f x x ≡ mul f (bare x) (bare x)
unfolding mul bare
square_bare f nan = refl
square_bare f (inf s) = ap inf (unlike_same s)
square_bare f (fin s m e) = ap (λ (b : Bool). round f b (m * up e * (m * up e)) (down e * down e)) (unlike_same s)

square : (v p : Float) → mul binary32 (sub binary32 (neg v) p) (sub binary32 (neg v) p) ≡ mul binary32 (add binary32 p v) (add binary32 p v)
square v p =
    square_bare binary32 (sub binary32 (neg v) p)
    ∙ ap (λ (x : Float). mul binary32 x x) (opposite binary32 v p)
    ∙ sym (square_bare binary32 (add binary32 p v))

-- the norm of −view − position is that of position + view
pub one_root : (view position : List Float) → offset_norm view position ≡ root_of (dot_of (plus_of position view) (plus_of position view))
unfolding offset_norm offset_of dot_of plus_of
one_root view position =
    rw (square (at view 0) (at position 0), square (at view 1) (at position 1), square (at view 2) (at position 2)) refl

-- so it is the norm that the ray has where there is a distance
pub norm_is : (light : Light) (view : List Float) (distance : Distance) → light.distance ≡ Some distance → (ray_to light view).norm ≡ offset_norm view light.position
unfolding ray_to norm_if is_scaled
norm_is light view distance e = go light.directional
  where
    go : (b : Bool) → norm_if (not b || is_scaled light.distance) (plus_of light.position view) ≡ offset_norm view light.position
    go true = rw e (sym (one_root view light.position))
    go false = sym (one_root view light.position)
