-- The census of every width. The patterns of one sign are a zero, numbers, an infinity and NaNs, each class in one run, so that the fold adds the length of the
-- run to the class's total; a second sign has the same runs. Assumes nothing.
use Rattle.std.specs.Prelude.{ℕ, zero, suc, ◌+◌, ◌-◌, ◌*◌, ◌%◌, ◌^◌, ◌≤◌, ◌<◌, ◌≡◌, refl, true, ◌&&◌, T, leb}
use Rattle.std.proofs.Common.{add-zero, add_comm, add-suc, le_refl, zero-mul, sym, ◌∙◌, subst, leb→le, le-leb}
use Rattle.std.proofs.Math.Nat.{mul-pos}
use native.Mathlib.Omega.{arith}
use Rattle.std.proofs.Math.Path.{ap}
use Rattle.std.specs.Float.Ieee.Fits.{and_l, and_r}
use Rattle.std.proofs.Math.Pow.{pow_pos, pow_mono, pow-add, high_ones, low}
use Rattle.fields.specs.Fields.{short_word}
use Rattle.fields.specs.Steps.{ShortWidths}
use Rattle.short_float_census.specs.declared.Class.{Class}
use Rattle.short_float_census.specs.declared.Class.TheVariants.{Zero, Infinity, Nan, Number}
use Rattle.short_float_census.specs.declared.Totals.{Totals}
use Rattle.short_float_census.specs.Census.{class_of, totals, more, totals_below, counted, census_of}
use Rattle.short_float_census.specs.Claims.{EveryWidth}
use Rattle.short_float_census.specs.PatternLaws.{zero_pattern, number_pattern, infinity_pattern, nan_pattern}

-- ---- the four add up: each pattern is counted once

sum : Totals → ℕ
sum t = t.zeros + t.infinities + t.nans + t.numbers

one_more : (c : Class) (t : Totals) → sum (more 1 c t) ≡ suc (sum t)
unfolding sum more
one_more Zero t = omega arith
one_more Infinity t = omega arith
one_more Nan t = omega arith
one_more Number t = omega arith

sum_below : (m e k : ℕ) → sum (totals_below m e k) ≡ k
unfolding totals_below sum
sum_below m e zero = refl
sum_below m e (suc k) = one_more (class_of (short_word m e k)) (totals_below m e k) ∙ ap suc (sum_below m e k)

pub whole : (m e k : ℕ) → (totals_below m e k).zeros + (totals_below m e k).infinities + (totals_below m e k).nans + (totals_below m e k).numbers ≡ k
unfolding sum
whole m e k = sum_below m e k

-- ---- a run of patterns of one class

up : (n k : ℕ) → n + k + 1 ≡ n + suc k
up n k = omega arith

no_more : (c : Class) (t : Totals) → t ≡ more 0 c t
unfolding more
no_more Zero t = simp add-zero
no_more Infinity t = simp add-zero
no_more Nan t = simp add-zero
no_more Number t = simp add-zero

more_again : (c : Class) (k : ℕ) (t : Totals) → more 1 c (more k c t) ≡ more (suc k) c t
unfolding more
more_again Zero k t = rw (up t.zeros k)
more_again Infinity k t = rw (up t.infinities k)
more_again Nan k t = rw (up t.nans k)
more_again Number k t = rw (up t.numbers k)

run : (m e a : ℕ) (c : Class) (k : ℕ) → ((i : ℕ) → i < k → class_of (short_word m e (a + i)) ≡ c) → totals_below m e (a + k) ≡ more k c (totals_below m e a)
unfolding totals_below
run m e a c zero h = ap (totals_below m e) (add-zero a) ∙ no_more c (totals_below m e a)
run m e a c (suc k) h =
    ap (totals_below m e) (add-suc a k)
    ∙ ap (λ (x : Class). more 1 x (totals_below m e (a + k))) (h k (le_refl (suc k)))
    ∙ ap (more 1 c) (run m e a c k (λ i l. h i (omega arith)))
    ∙ more_again c k (totals_below m e a)

-- ---- the patterns of one sign, s being 0 or 1: those from s · 2 ^ (m + e) on

module _ (m e : ℕ) (w : ShortWidths m e) where
  -- the bits under the sign of an infinity
  top : ℕ
  top = (2 ^ e - 1) * 2 ^ m

  top_power : 2 ^ (m + e) ≡ top + 2 ^ m
  unfolding top
  top_power =
      let ones : 2 ^ (e + m) - 2 ^ m ≡ (2 ^ e - 1) * 2 ^ m = high_ones e m in
      let long : 2 ^ m ≤ 2 ^ (e + m) = pow_mono {i = m} {j = e + m} (omega arith) in
      let whole : 2 ^ (e + m) ≡ (2 ^ e - 1) * 2 ^ m + 2 ^ m = omega arith in
      ap (λ (k : ℕ). 2 ^ k) (add_comm m e) ∙ whole

  top_pos : 1 ≤ top
  unfolding top
  top_pos = let four : 4 ≤ 2 ^ e = pow_mono {i = 2} {j = e} w.e_low in mul-pos (omega arith) (pow_pos m)

  module _ (s : ℕ) where
    start : ℕ
    start = s * 2 ^ (m + e)

    under : (n i : ℕ) → n ≡ start + i → i < 2 ^ (m + e) → n % 2 ^ (m + e) ≡ i
    unfolding start
    under n i is h = ap (λ (k : ℕ). k % 2 ^ (m + e)) is ∙ low s (m + e) h

    zeros_run : totals_below m e (start + 1) ≡ more 1 Zero (totals_below m e start)
    zeros_run = run m e start Zero 1 (λ i l. zero_pattern m e w (start + i) (under (start + i) 0 (omega arith) (pow_pos (m + e))))

    numbers_run : totals_below m e (start + 1 + (top - 1)) ≡ more (top - 1) Number (totals_below m e (start + 1))
    unfolding top
    numbers_run =
        run m e (start + 1) Number (top - 1)
        (λ i l. number_pattern m e w (start + 1 + i) (1 + i) (under (start + 1 + i) (1 + i) (omega arith) (omega (arith, top_power, pow_pos m))) (omega arith) (omega (arith, top_pos)))

    infinity_run : totals_below m e (start + 1 + (top - 1) + 1) ≡ more 1 Infinity (totals_below m e (start + 1 + (top - 1)))
    unfolding top
    infinity_run =
        run m e (start + 1 + (top - 1)) Infinity 1
        (λ i l. infinity_pattern m e w (start + 1 + (top - 1) + i) 0 (under (start + 1 + (top - 1) + i) (top + 0) (omega (arith, top_pos)) (omega (arith, top_power, pow_pos m))) (pow_pos m) refl)

    nans_run : totals_below m e (start + 1 + (top - 1) + 1 + (2 ^ m - 1)) ≡ more (2 ^ m - 1) Nan (totals_below m e (start + 1 + (top - 1) + 1))
    unfolding top
    nans_run =
        run m e (start + 1 + (top - 1) + 1) Nan (2 ^ m - 1)
        (λ i l.
        nan_pattern m e w (start + 1 + (top - 1) + 1 + i) (1 + i)
        (under (start + 1 + (top - 1) + 1 + i) (top + (1 + i)) (omega (arith, top_pos)) (omega (arith, top_power)))
        (omega arith)
        (omega arith))

  -- what one sign adds
  signed : Totals → Totals
  signed t = more (2 ^ m - 1) Nan (more 1 Infinity (more (top - 1) Number (more 1 Zero t)))

  one_sign : (s : ℕ) → totals_below m e (s * 2 ^ (m + e) + 2 ^ (m + e)) ≡ signed (totals_below m e (s * 2 ^ (m + e)))
  unfolding signed start
  one_sign s =
      let end : s * 2 ^ (m + e) + 2 ^ (m + e) ≡ s * 2 ^ (m + e) + 1 + (top - 1) + 1 + (2 ^ m - 1) = omega (arith, top_power, top_pos, pow_pos m) in
      ap (totals_below m e) end
      ∙ nans_run s
      ∙ ap (more (2 ^ m - 1) Nan) (infinity_run s ∙ ap (more 1 Infinity) (numbers_run s ∙ ap (more (top - 1) Number) (zeros_run s)))

  both_signs : totals_below m e (2 ^ (m + e + 1)) ≡ signed (signed (totals 0 0 0 0))
  unfolding totals_below
  both_signs =
      let half = 2 ^ (m + e) in
      let end : 2 ^ (m + e + 1) ≡ 1 * half + half = omega (arith, pow-add 2 (m + e) 1) in
      let middle : 1 * half ≡ 0 * half + half = omega arith in
      ap (totals_below m e) end
      ∙ one_sign 1
      ∙ ap (λ (k : ℕ). signed (totals_below m e k)) middle
      ∙ ap signed (one_sign 0 ∙ ap (λ (k : ℕ). signed (totals_below m e k)) (zero-mul half))

-- ---- F-10's sentence

widths_counted : (m e : ℕ) → ShortWidths m e → counted m e ≡ true
unfolding counted
widths_counted m e w = rw (le-leb 1 m w.m_low, le-leb m 12 w.m_high, le-leb 2 e w.e_low, le-leb e 7 w.e_high) refl

pub counted_widths : (m e : ℕ) → counted m e ≡ true → ShortWidths m e
unfolding counted
counted_widths m e h =
    let a = leb 1 m in
    let b = leb m 12 in
    let c = leb 2 e in
    let d = leb e 7 in
    let all : T (a && b && c && d) = subst T (sym h) tt in
    let three = and_l (a && b && c) d all in
    record {
      m_low = leb→le 1 m (and_l a b (and_l (a && b) c three));
      m_high = leb→le m 12 (and_r a b (and_l (a && b) c three));
      e_low = leb→le 2 e (and_r (a && b) c three);
      e_high = leb→le e 7 (and_r (a && b && c) d all);
    }

pub counts_all : (m e : ℕ) → ShortWidths m e → census_of m e ≡ totals_below m e (2 ^ (m + e + 1))
unfolding census_of
counts_all m e w = rw (widths_counted m e w) refl

pub every_width : EveryWidth
unfolding signed more
every_width m e w =
    let is = counts_all m e w ∙ both_signs m e w in
    record {
      zeros = ap (λ (t : Totals). t.zeros) is;
      infinities = ap (λ (t : Totals). t.infinities) is;
      nans = ap (λ (t : Totals). t.nans) is ∙ twice (2 ^ m - 1);
      whole = rw (counts_all m e w) (whole m e (2 ^ (m + e + 1)));
    }
  where
    twice : (n : ℕ) → 0 + n + n ≡ 2 * n
    twice n = omega arith
