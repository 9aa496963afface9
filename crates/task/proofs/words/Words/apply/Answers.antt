use Rattle.std.proofs.Common.{◌≡◌, suc, ◌-◌, ◌^◌, ◌<◌, ◌&&◌, ◌||◌, ◌∷◌, sym, refl, ap, ◌∙◌, inl, inr, arith, rules}
use lib.Bits.{bit_and, bit_or, or_lt}
use Rattle.ltlf.specs.Bits.{bit}
use Rattle.ltlf.specs.Ltlf.{top, neg, conj, disj, next, weak, until, eventually, always}
use Rattle.ltlf.specs.Prefix.{made}
use Rattle.ltlf.proofs.Words.{bit_or_is, bit_and_is}
use Rattle.ltlf.proofs.Applying.{no_operand, one_operand, two_operands}
use Rattle.ltlf.proofs.Evaluating.{ev_true, ev_not, ev_and, ev_or, ev_next, ev_weak, ev_until, ev_eventually, ev_always}
use Rattle.task.specs.Held.{held}
use Rattle.task.proofs.words.Words.apply.Goals as goal

pub returns-in-True : goal.returns-in-True
returns-in-True c =
    let me = c.args.self.now in
    let last = c.push.new.self in
    let a = c.args.letter in
    record {
      top = search rules;
      number = search rules;
      evaluates = λ fs gs zs e.
          no_operand fs gs zs a me.earlier.top me.earlier.top (held me.stack) (held me.earlier) (held last) (held me.earlier)
          me.earlier.top me.earlier.top (held me.stack) (18446744073709551615 ∷ held me.stack) (held me.earlier) refl (cc) refl (cc) (cc)
          top (ap (λ o. made o fs) (sym c.in-True.is) ∙ e)
          (ev_true fs zs a (held me.stack) (held me.earlier) me.earlier.top);
    }

pub returns-in-Not : goal.returns-in-Not
returns-in-Not c =
    let me = c.args.self.now in
    let rest = held c.pop-f.new.self in
    let last = c.push-in-Not.new.self in
    let a = c.args.letter in
    let x = c.pop-f.result in
    record {
      top = search rules;
      number = search rules;
      evaluates = λ fs gs zs e.
          one_operand fs gs zs a me.earlier.top me.earlier.top (held me.stack) (held me.earlier) (held last) (held me.earlier)
          me.earlier.top me.earlier.top (x ∷ rest) ((18446744073709551615 - x) ∷ rest) (held me.earlier) refl (cc) (cc) (cc) (cc)
          neg (ap (λ o. made o fs) (sym c.in-Not.is) ∙ e)
          (λ f hs. ev_not hs zs a rest (held me.earlier) f x me.earlier.top c.pop-f.type_inv);
    }

pub returns-in-And : goal.returns-in-And
returns-in-And c =
    let me = c.args.self.now in
    let rest = held c.pop-g.new.self in
    let last = c.push-in-And.new.self in
    let a = c.args.letter in
    let x = c.pop-f-in-And.result in
    let y = c.pop-g.result in
    record {
      top = search rules;
      number = search rules;
      evaluates = λ fs gs zs e.
          two_operands fs gs zs a me.earlier.top me.earlier.top (held me.stack) (held me.earlier) (held last) (held me.earlier)
          me.earlier.top me.earlier.top (x ∷ (y ∷ rest)) (bit_and x y ∷ rest) (held me.earlier) refl (cc) (cc) (cc) (cc)
          conj (ap (λ o. made o fs) (sym c.in-And.is) ∙ e)
          (λ f g hs. ev_and hs zs a rest (held me.earlier) f g x y me.earlier.top);
    }

pub returns-in-Or : goal.returns-in-Or
returns-in-Or c =
    let me = c.args.self.now in
    let rest = held c.pop-g-in-Or.new.self in
    let last = c.push-in-Or.new.self in
    let a = c.args.letter in
    let x = c.pop-f-in-Or.result in
    let y = c.pop-g-in-Or.result in
    record {
      top = search rules;
      number = search rules;
      evaluates = λ fs gs zs e.
          two_operands fs gs zs a me.earlier.top me.earlier.top (held me.stack) (held me.earlier) (held last) (held me.earlier)
          me.earlier.top me.earlier.top (x ∷ (y ∷ rest)) (bit_or x y ∷ rest) (held me.earlier) refl (cc) (cc) (cc) (cc)
          disj (ap (λ o. made o fs) (sym c.in-Or.is) ∙ e)
          (λ f g hs. ev_or hs zs a rest (held me.earlier) f g x y me.earlier.top);
    }

pub returns-in-Next : goal.returns-in-Next
returns-in-Next c =
    let me = c.args.self.now in
    let rest = held c.pop-f-in-Next.new.self in
    let last = c.push-in-Next-2.new.self in
    let a = c.args.letter in
    let bits = c.push-in-Next.new.self in
    let m = bits.top in
    let x = c.pop-f-in-Next.result in
    let y = c.forecast-holds.result in
    let one_less : me.earlier.top ≡ suc m = omega arith in
    record {
      top = elim c.in-Next.is [ inl e ↦ search rules | inr e ↦ search rules ];
      number = elim c.in-Next.is [ inl e ↦ search rules | inr e ↦ search rules ];
      evaluates = λ fs gs zs e. elim c.in-Next.is [
        | inl is ↦
            one_operand fs gs zs a me.earlier.top m (held me.stack) (held me.earlier) (held last) (held bits)
            (suc m) m (x ∷ rest) (y ∷ rest) (x ∷ held me.earlier) one_less refl (cc) (cc) (cc)
            next (ap (λ o. made o fs) (sym is) ∙ e)
            (λ f hs. ev_next hs zs a rest (held me.earlier) f x m y (λ w h. c.forecast-holds.ensures m w (omega arith) h))
        | inr is ↦
            one_operand fs gs zs a me.earlier.top m (held me.stack) (held me.earlier) (held last) (held bits)
            (suc m) m (x ∷ rest) (y ∷ rest) (x ∷ held me.earlier) one_less refl (cc) (cc) (cc)
            weak (ap (λ o. made o fs) (sym is) ∙ e)
            (λ f hs. ev_weak hs zs a rest (held me.earlier) f x m y (λ w h. c.forecast-holds.ensures m w (omega arith) h))
      ];
    }

pub returns-in-Until : goal.returns-in-Until
returns-in-Until c =
    let me = c.args.self.now in
    let rest = held c.pop-g-in-Until.new.self in
    let last = c.push-in-Until-2.new.self in
    let a = c.args.letter in
    let bits = c.push-in-Until.new.self in
    let m = bits.top in
    let x = c.pop-f-in-Until.result in
    let y = c.pop-g-in-Until.result in
    let v = c.forecast.result in
    let z = bit_or y (bit_and x v) in
    let one_less : me.earlier.top ≡ suc m = omega arith in
    record {
      top = search rules;
      number = search rules;
      evaluates = λ fs gs zs e.
          two_operands fs gs zs a me.earlier.top m (held me.stack) (held me.earlier) (held last) (held bits)
          (suc m) m (x ∷ (y ∷ rest)) (z ∷ rest) (z ∷ held me.earlier) one_less refl (cc) (cc) (cc)
          until (ap (λ o. made o fs) (sym c.in-Until.is) ∙ e)
          (λ f g hs. ev_until hs zs a rest (held me.earlier) f g x y m z
          (λ w h. bit_or_is w y (bit_and x v) ∙ ap (λ b. bit w y || b) (bit_and_is w x v ∙ ap (λ b. bit w x && b) (c.forecast.ensures m w (omega arith) h))));
    }

pub returns-in-Eventually : goal.returns-in-Eventually
returns-in-Eventually c =
    let me = c.args.self.now in
    let rest = held c.pop-f-in-Eventually.new.self in
    let last = c.push-in-Eventually-2.new.self in
    let a = c.args.letter in
    let bits = c.push-in-Eventually.new.self in
    let m = bits.top in
    let x = c.pop-f-in-Eventually.result in
    let v = c.forecast-in-Eventually.result in
    let one_less : me.earlier.top ≡ suc m = omega arith in
    record {
      top = search rules;
      number = search rules;
      evaluates = λ fs gs zs e.
          one_operand fs gs zs a me.earlier.top m (held me.stack) (held me.earlier) (held last) (held bits)
          (suc m) m (x ∷ rest) (bit_or x v ∷ rest) (bit_or x v ∷ held me.earlier) one_less refl (cc) (cc) (cc)
          eventually (ap (λ o. made o fs) (sym c.in-Eventually.is) ∙ e)
          (λ f hs. ev_eventually hs zs a rest (held me.earlier) f x m (bit_or x v)
          (λ w h. bit_or_is w x v ∙ ap (λ b. bit w x || b) (c.forecast-in-Eventually.ensures m w (omega arith) h)));
    }

pub returns-in-Always : goal.returns-in-Always
returns-in-Always c =
    let me = c.args.self.now in
    let rest = held c.pop-f-in-Always.new.self in
    let last = c.push-in-Always-2.new.self in
    let a = c.args.letter in
    let bits = c.push-in-Always.new.self in
    let m = bits.top in
    let x = c.pop-f-in-Always.result in
    let v = c.forecast-in-Always.result in
    let y = bit_or (18446744073709551615 - x) v in
    let one_less : me.earlier.top ≡ suc m = omega arith in
    let y-fits : y < 2 ^ 64 = or_lt 64 (18446744073709551615 - x) v (omega arith) c.forecast-in-Always.type_inv in
    record {
      top = search rules;
      number = search rules;
      evaluates = λ fs gs zs e.
          one_operand fs gs zs a me.earlier.top m (held me.stack) (held me.earlier) (held last) (held bits)
          (suc m) m (x ∷ rest) ((18446744073709551615 - y) ∷ rest) (y ∷ held me.earlier) one_less refl (cc) (cc) (cc)
          always (ap (λ o. made o fs) (sym c.in-Always.is) ∙ e)
          (λ f hs. ev_always hs zs a rest (held me.earlier) f x m y c.pop-f-in-Always.type_inv y-fits
          (λ w h. bit_or_is w (18446744073709551615 - x) v ∙ ap (λ b. bit w (18446744073709551615 - x) || b) (c.forecast-in-Always.ensures m w (omega arith) h)));
    }
