-- One operator more, evaluated from the words of the formulas after it.
use Rattle.std.proofs.Common.{◌≡◌, ℕ, zero, suc, ◌+◌, ◌-◌, ◌^◌, ◌<◌, Bool, true, false, not, ◌&&◌, ◌||◌, List, [], ◌∷◌, ◌++◌, get_or, sym, refl, ap, ◌∙◌, append_assoc, add-zero, arith}
use lib.Bits.{bit_and, bit_or}
use Rattle.std.proofs.lemmas.Bool.Decides.{Decides-below_and}
use Rattle.ltlf.specs.Bits.{bit}
use Rattle.ltlf.specs.Ltlf.{Ltlf, top, mark, neg, conj, disj, next, weak, until, eventually, always}
use Rattle.ltlf.specs.Forecasts.{temporal, truth, earlier_bits}
use Rattle.ltlf.specs.Evaluation.{truths, earlier_of, Evaluates}
use Rattle.ltlf.proofs.Words.{bit_and_is, bit_or_is, bit_not, bit_full}

join : {x y : Bool} {xs ys : List Bool} → x ≡ y → xs ≡ ys → x ∷ xs ≡ y ∷ ys
join p q = cc

lead : {x y : Bool} {xs ys : List Bool} → x ∷ xs ≡ y ∷ ys → x ≡ y
lead p = cc

rest : {x y : Bool} {xs ys : List Bool} → x ∷ xs ≡ y ∷ ys → xs ≡ ys
rest p = cc

-- bit n of each forecast, as a word
abbrev pub forecast_words : List ℕ
forecast_words =
    0xaaaa_aaaa_aaaa_aaaa ∷ 0xcccc_cccc_cccc_cccc ∷ 0xf0f0_f0f0_f0f0_f0f0
    ∷ 0xff00_ff00_ff00_ff00 ∷ 0xffff_0000_ffff_0000 ∷ 0xffff_ffff_0000_0000 ∷ []

abbrev agree : Bool → Bool → Bool
agree true b = b
agree false b = not b

agree_same : (b c : Bool) → agree b c ≡ true → b ≡ c
agree_same true c e = sym e
agree_same false true e = e
agree_same false false e = refl

abbrev row_right : ℕ → ℕ → Bool
row_right n zero = true
row_right n (suc w) = agree (bit w (get_or forecast_words n 0)) (bit n w) && row_right n w

abbrev rows_right : ℕ → Bool
rows_right zero = true
rows_right (suc n) = row_right n 64 && rows_right n

pub forecast_bit : (n w : ℕ) → n < 6 → w < 64 → bit w (get_or forecast_words n 0) ≡ bit n w
forecast_bit n w h l =
    let row : row_right n 64 ≡ true
    = (Decides-below_and (λ n. row_right n 64) (λ n. row_right n 64 ≡ true) rows_right (λ n. (λ e. e, λ e. e)) refl (λ n. refl) 6).0 refl n h in
    agree_same _ _ ((Decides-below_and (λ w. agree (bit w (get_or forecast_words n 0)) (bit n w)) (λ w. agree (bit w (get_or forecast_words n 0)) (bit n w) ≡ true)
    (row_right n) (λ w. (λ e. e, λ e. e)) refl (λ w. refl) 64).0 row w l)

module _ (fs : List Ltlf) (zs : List Bool) (a : ℕ) (ws es : List ℕ) where
  pub ev_true : (n : ℕ) → Evaluates fs zs n a ws es → Evaluates (top ∷ fs) zs n a (18446744073709551615 ∷ ws) es
  ev_true n e = record {
    here = λ w h. rw add-zero (join (bit_full w h) (e.here w h));
    before = λ w h. rw add-zero (e.before w h);
  }

  pub ev_mark : (n m x : ℕ) → ((w : ℕ) → w < 64 → bit w x ≡ bit m a) → Evaluates fs zs n a ws es → Evaluates (mark m ∷ fs) zs n a (x ∷ ws) es
  ev_mark n m x is e = record {
    here = λ w h. rw add-zero (join (is w h) (e.here w h));
    before = λ w h. rw add-zero (e.before w h);
  }

  module _ (f : Ltlf) (x : ℕ) where
    pub ev_not : (n : ℕ) → x < 2 ^ 64 → Evaluates (f ∷ fs) zs n a (x ∷ ws) es → Evaluates (neg f ∷ fs) zs n a ((18446744073709551615 - x) ∷ ws) es
    ev_not n l e = record {
      here = λ w h. join (bit_not w x h l ∙ ap not (lead (e.here w h))) (rest (e.here w h));
      before = λ w h. e.before w h;
    }

    -- the next operator's number, one less
    past : (m : ℕ) → suc m + temporal f ≡ m + suc (temporal f)
    past m = omega arith

    pub ev_next : (m y : ℕ) → ((w : ℕ) → w < 64 → bit w y ≡ bit m w)
        → Evaluates (f ∷ fs) zs (suc m) a (x ∷ ws) es → Evaluates (next f ∷ fs) zs m a (y ∷ ws) (x ∷ es)
    ev_next m y is e = record {
      here = λ w h. join (is w h) (rest (e.here w h) ∙ ap (λ k. truths fs k a w) (past m));
      before = λ w h. join (lead (e.here w h)) (e.before w h ∙ ap (λ k. earlier_bits f (suc m) a w ++ earlier_of fs k a w zs) (past m));
    }

    pub ev_weak : (m y : ℕ) → ((w : ℕ) → w < 64 → bit w y ≡ bit m w)
        → Evaluates (f ∷ fs) zs (suc m) a (x ∷ ws) es → Evaluates (weak f ∷ fs) zs m a (y ∷ ws) (x ∷ es)
    ev_weak m y is e = record { here = (ev_next m y is e).here; before = (ev_next m y is e).before }

    pub ev_eventually : (m y : ℕ) → ((w : ℕ) → w < 64 → bit w y ≡ (bit w x || bit m w))
        → Evaluates (f ∷ fs) zs (suc m) a (x ∷ ws) es → Evaluates (eventually f ∷ fs) zs m a (y ∷ ws) (y ∷ es)
    ev_eventually m y is e = record {
      here = λ w h. join (told w h) (rest (e.here w h) ∙ ap (λ k. truths fs k a w) (far m));
      before = λ w h. join (told w h)
          (e.before w h ∙ (ap (λ k. earlier_bits f (suc m) a w ++ earlier_of fs k a w zs) (far m)
          ∙ ap (λ k. earlier_bits f k a w ++ earlier_of fs (m + suc (0 + temporal f)) a w zs) (near m)));
    }
      where
        far : (m : ℕ) → suc m + temporal f ≡ m + suc (0 + temporal f)
        far m = omega arith

        near : (m : ℕ) → suc m ≡ suc m + 0
        near m = omega arith

        told : (w : ℕ) → w < 64 → bit w y ≡ truth (eventually f) m a w
        told w h = is w h ∙ (ap (λ b. b || bit m w) (lead (e.here w h)) ∙ ap (λ k. truth f k a w || bit m w) (near m))

  module _ (f g : Ltlf) (x y : ℕ) where
    -- both operands' bits, and those after them, numbered on to k
    parts : (n k w : ℕ) → n + temporal f + temporal g ≡ k
        → earlier_bits f n a w ++ (earlier_bits g (n + temporal f) a w ++ earlier_of fs (n + temporal f + temporal g) a w zs)
        ≡ (earlier_bits f n a w ++ earlier_bits g (n + temporal f) a w) ++ earlier_of fs k a w zs
    parts n k w e =
        sym (append_assoc (earlier_bits f n a w) (earlier_bits g (n + temporal f) a w) (earlier_of fs (n + temporal f + temporal g) a w zs))
        ∙ ap (λ j. (earlier_bits f n a w ++ earlier_bits g (n + temporal f) a w) ++ earlier_of fs j a w zs) e

    pub ev_and : (n : ℕ) → Evaluates (f ∷ (g ∷ fs)) zs n a (x ∷ (y ∷ ws)) es → Evaluates (conj f g ∷ fs) zs n a (bit_and x y ∷ ws) es
    ev_and n e = record {
      here = λ w h.
          join (bit_and_is w x y ∙ (ap (λ b. b && bit w y) (lead (e.here w h)) ∙ ap (λ b. truth f n a w && b) (lead (rest (e.here w h)))))
          (rest (rest (e.here w h)) ∙ ap (λ k. truths fs k a w) (omega arith));
      before = λ w h. e.before w h ∙ parts n (n + (temporal f + temporal g)) w (omega arith);
    }

    pub ev_or : (n : ℕ) → Evaluates (f ∷ (g ∷ fs)) zs n a (x ∷ (y ∷ ws)) es → Evaluates (disj f g ∷ fs) zs n a (bit_or x y ∷ ws) es
    ev_or n e = record {
      here = λ w h.
          join (bit_or_is w x y ∙ (ap (λ b. b || bit w y) (lead (e.here w h)) ∙ ap (λ b. truth f n a w || b) (lead (rest (e.here w h)))))
          (rest (rest (e.here w h)) ∙ ap (λ k. truths fs k a w) (omega arith));
      before = λ w h. e.before w h ∙ parts n (n + (temporal f + temporal g)) w (omega arith);
    }

    pub ev_until : (m z : ℕ) → ((w : ℕ) → w < 64 → bit w z ≡ (bit w y || (bit w x && bit m w)))
        → Evaluates (f ∷ (g ∷ fs)) zs (suc m) a (x ∷ (y ∷ ws)) es → Evaluates (until f g ∷ fs) zs m a (z ∷ ws) (z ∷ es)
    ev_until m z is e = record {
      here = λ w h. join (told w h) (rest (rest (e.here w h)) ∙ ap (λ k. truths fs k a w) (omega arith));
      before = λ w h. join (told w h) (e.before w h ∙ parts (suc m) (m + suc (temporal f + temporal g)) w (omega arith));
    }
      where
        told : (w : ℕ) → w < 64 → bit w z ≡ truth (until f g) m a w
        told w h =
            is w h ∙ (ap (λ b. b || (bit w x && bit m w)) (lead (rest (e.here w h)))
            ∙ ap (λ b. truth g (suc m + temporal f) a w || (b && bit m w)) (lead (e.here w h)))

pub ev_always : (fs : List Ltlf) (zs : List Bool) (a : ℕ) (ws es : List ℕ) (f : Ltlf) (x m y : ℕ) → x < 2 ^ 64 → y < 2 ^ 64
    → ((w : ℕ) → w < 64 → bit w y ≡ (bit w (18446744073709551615 - x) || bit m w))
    → Evaluates (f ∷ fs) zs (suc m) a (x ∷ ws) es → Evaluates (always f ∷ fs) zs m a ((18446744073709551615 - y) ∷ ws) (y ∷ es)
ev_always fs zs a ws es f x m y l k is e =
    ev_not fs zs a ws (y ∷ es) (eventually (neg f)) y m k
    (ev_eventually fs zs a ws es (neg f) (18446744073709551615 - x) m y is (ev_not fs zs a ws es f x (suc m) l e))
