-- The ways out of the check of pivots and a bucket: causes 1, 2, 3 and 14.
use Rattle.std.specs.Prelude.{Result, Ok, Err}
use mathlib.Core.Path.{◌≡◌, refl, ap, ◌∙◌}
use mathlib.Core.Bool.{Bool, true, false, not}
use mathlib.Core.List.{List}
use mathlib.Core.Option.{none}
use Prim.Native.Nat.{ℕ}
use Rattle.model.specs.declared.Refusal.{Refusal}
use Rattle.model.specs.declared.Refusal.TheVariants.{EntriesUnsorted}
use Rattle.model.specs.buckets.Bucket.{entry_bytes, entries, entries_rise}
use Rattle.model.specs.calls.Refusals.{outcome, paired, first, answer}
use Rattle.model.specs.calls.TableCalls.{pivot_causes}
use Rattle.model.specs.calls.BucketCalls.{entries_read, bucket_causes}
use Rattle.model.proofs.calls.Refusals.{accepted, value_is, refused, refused_first, after, paired_none}
use Rattle.model.proofs.calls.BucketCalls.{bucket_read}
use Rattle.refusals.specs.Earlier.{earlier}
use Rattle.refusals.proofs.InStep.{rising, in_step, told_earlier}
use Rattle.entry_order.specs.Rising.{rising_causes}

-- ---- causes 1 to 3

module _ (wrong : Bool) (p l : List ℕ) where
  -- pivots and bucket list their causes by the same numbers
  in_step_lem : in_step (pivot_causes false wrong p) (bucket_causes false l) ≡ true
  unfolding in_step rising pivot_causes bucket_causes
  in_step_lem = refl

  -- so the earlier refusal of the two checks is that of both
  pub both_checked : (x a b : Result ℕ Refusal) (m n : ℕ) → a ≡ answer (pivot_causes false wrong p) m → b ≡ answer (bucket_causes false l) n
      → x ≡ earlier a b → x ≡ answer (paired (pivot_causes false wrong p) (bucket_causes false l)) m
  both_checked x a b m n g h i = told_earlier (pivot_causes false wrong p) (bucket_causes false l) m n x a b in_step_lem g h i

-- ---- cause 14 behind them

module _ (wrong : Bool) (p l : List ℕ) (a : Result ℕ Refusal) (m : ℕ) (e : a ≡ answer (paired (pivot_causes false wrong p) (bucket_causes false l)) m) where
  -- a refusal of both is handed on
  pub both_refuse : (r : Refusal) (x : Result ℕ Refusal) (v : ℕ) → a ≡ Err r → x ≡ Err r → x ≡ answer (rising_causes wrong p l) v
  unfolding rising_causes
  both_refuse r x v f g = refused_first Err (Ok v) x (paired (pivot_causes false wrong p) (bucket_causes false l)) _ r (refused (paired (pivot_causes false wrong p) (bucket_causes false l)) m a e r f) g

  module _ (n : ℕ) (f : a ≡ Ok n) where
    none_of_both : first (paired (pivot_causes false wrong p) (bucket_causes false l)) ≡ none
    none_of_both = accepted (paired (pivot_causes false wrong p) (bucket_causes false l)) m a e n f

    pub read_checked : entries_read (entry_bytes l) ≡ true
    read_checked = bucket_read false l (paired_none (pivot_causes false wrong p) (bucket_causes false l) none_of_both).1

    -- else 14 decides
    module _ (t : Bool) (g : t ≡ entries_rise (entries l)) where
      pub unsorted : not t ≡ true → (v : ℕ) → Err EntriesUnsorted ≡ answer (rising_causes wrong p l) v
      unfolding rising_causes
      unsorted k v = after Err (Ok v) (Err EntriesUnsorted) (paired (pivot_causes false wrong p) (bucket_causes false l)) _ none_of_both (unfold outcome in (rw (← g, k)))

      pub rises : not t ≡ false → a ≡ answer (rising_causes wrong p l) m
      unfolding rising_causes
      rises k =
          after Err (Ok m) a (paired (pivot_causes false wrong p) (bucket_causes false l)) _ none_of_both
          (unfold outcome in (rw (← g, k) (f ∙ ap Ok (value_is (paired (pivot_causes false wrong p) (bucket_causes false l)) m a e n f))))
