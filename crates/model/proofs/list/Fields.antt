-- The fields of a line tell what they stand for: no two keys, pivots or edges have the same text, and lines that are the same are of the same pivots and edge.
use mathlib.Core.Path.{◌≡◌, refl, sym, ap, ◌∙◌}
use mathlib.Core.Bool.{Bool, true, false, cond}
use mathlib.Core.List.{List, [], ◌∷◌, ◌++◌, append_assoc}
use Prim.Native.Nat.{ℕ, suc, ◌+◌, ◌*◌, ◌/◌, ◌%◌, ◌≤◌}
use native.Mathlib.Omega.{arith}
use borrow.Author.Tests.{ltb-true, ltb-false, lt-ltb}
use lib.Dec.{ltb}
use lib.ListN.{length, drop, get_or}
use lib.Seq.{drop-append_seam}
use Rattle.model.specs.keys.Key.{Key}
use Rattle.model.specs.keys.Order.{Element, key, max}
use Rattle.model.specs.records.Record.{Edge, edge, no_edge}
use Rattle.model.specs.ranges.RangePrefix.{PivotLcp}
use Rattle.model.specs.tables.Tables.{all}
use Rattle.model.specs.list.ShelfList.{tab, newline, max_word, dash, dot, digit, decimal, hex, key_text, element_text, edge_text, slot_line}
use Rattle.model.proofs.keys.Key.{both}
use Rattle.model.proofs.list.Length.{hex_length}

-- ---- a list's head and tail

module _ (a b : ℕ) (k q : List ℕ) (h : a ∷ k ≡ b ∷ q) where
  pub head_is : a ≡ b
  head_is = ap (λ (l : List ℕ). get_or l 0 0) h

  pub tail_is : k ≡ q
  tail_is = ap (drop 1) h

-- ---- the text of a key, a pivot and an edge tells it

digit_tells : (a b : ℕ) → digit a ≡ digit b → a ≡ b
unfolding digit
digit_tells a b = go (ltb a 10) (ltb b 10) refl refl
  where
    go : (s t : Bool) → ltb a 10 ≡ s → ltb b 10 ≡ t → cond s (0x30 + a) (0x57 + a) ≡ cond t (0x30 + b) (0x57 + b) → a ≡ b
    go true true e f h = omega arith
    go true false e f h = let x = ltb-true a 10 e in let y = ltb-false b 10 f in omega arith
    go false true e f h = let x = ltb-false a 10 e in let y = ltb-true b 10 f in omega arith
    go false false e f h = omega arith

hex_tells : (k q : Key) → hex k ≡ hex q → k ≡ q
unfolding hex
hex_tells [] [] h = refl
hex_tells [] (b ∷ q) h = let z : 0 ≡ suc (suc (length (hex q))) = ap length h in absurd (omega arith)
hex_tells (a ∷ k) [] h = let z : suc (suc (length (hex k))) ≡ 0 = ap length h in absurd (omega arith)
hex_tells (a ∷ k) (b ∷ q) h =
    let t = tail_is _ _ _ _ h in
    let high = digit_tells (a / 16) (b / 16) (head_is _ _ _ _ h) in
    let low = digit_tells (a % 16) (b % 16) (head_is _ _ _ _ t) in
    let e : a ≡ b = omega arith in
    let f = hex_tells k q (tail_is _ _ _ _ t) in
    rw (e, f)

-- digits come in pairs, and a mark has an odd number of bytes
hex_even : (k : Key) (w : List ℕ) (n : ℕ) → length w ≡ 2 * n + 1 → hex k ≡ w → ⊥
hex_even k w n l h = let e : length (hex k) ≡ length w = ap length h in omega (arith, hex_length k)

pub key_tells : (k q : Key) → key_text k ≡ key_text q → k ≡ q
unfolding key_text dash
key_tells [] [] h = refl
key_tells [] (b ∷ q) h = absurd (hex_even (b ∷ q) dash 0 refl (sym h))
key_tells (a ∷ k) [] h = absurd (hex_even (a ∷ k) dash 0 refl h)
key_tells (a ∷ k) (b ∷ q) h = hex_tells (a ∷ k) (b ∷ q) h

-- no key's text is `max`
not_max : (k : Key) → key_text k ≡ max_word → ⊥
unfolding key_text dash max_word
not_max [] h = let z : ◌≡◌ {A = ℕ} 1 3 = ap length h in omega arith
not_max (b ∷ k) h = hex_even (b ∷ k) max_word 1 refl h

pub element_tells : (a b : Element) → element_text a ≡ element_text b → a ≡ b
unfolding element_text
element_tells (key k) (key q) h = ap key (key_tells k q h)
element_tells (key k) max h = absurd (not_max k h)
element_tells max (key q) h = absurd (not_max q (sym h))
element_tells max max h = refl

pub edge_tells : (a b : Edge) → edge_text a ≡ edge_text b → a ≡ b
unfolding edge_text dash dot
edge_tells (edge []) (edge []) h = refl
edge_tells (edge []) (edge (b ∷ q)) h = absurd (hex_even (b ∷ q) dot 0 refl (sym h))
edge_tells (edge []) no_edge h = let z : ◌≡◌ {A = ℕ} 0x2e 0x2d = head_is _ _ _ _ h in absurd (omega arith)
edge_tells (edge (a ∷ k)) (edge []) h = absurd (hex_even (a ∷ k) dot 0 refl h)
edge_tells (edge (a ∷ k)) (edge (b ∷ q)) h = ap edge (hex_tells (a ∷ k) (b ∷ q) h)
edge_tells (edge (a ∷ k)) no_edge h = absurd (hex_even (a ∷ k) dash 0 refl h)
edge_tells no_edge (edge []) h = let z : ◌≡◌ {A = ℕ} 0x2d 0x2e = head_is _ _ _ _ h in absurd (omega arith)
edge_tells no_edge (edge (b ∷ q)) h = absurd (hex_even (b ∷ q) dash 0 refl (sym h))
edge_tells no_edge no_edge h = refl

-- ---- the fields of a line are told apart by the bytes between them

-- no byte is one that ends a field
abbrev plain : List ℕ → Bool
plain t = all (ltb newline) t

fields : (a b x y : List ℕ) (t : ℕ) → plain a ≡ true → plain b ≡ true → t ≤ newline → a ++ (t ∷ x) ≡ b ++ (t ∷ y) → (a ≡ b) × (x ≡ y)
unfolding all
fields [] [] x y t p q l h = (refl, tail_is _ _ _ _ h)
fields [] (d ∷ b) x y t p q l h =
    let e : t ≡ d = head_is _ _ _ _ h in
    let m = ltb-true newline d (both (ltb newline d) (plain b) q).0 in
    absurd (omega arith)
fields (c ∷ a) [] x y t p q l h =
    let e : c ≡ t = head_is _ _ _ _ h in
    let m = ltb-true newline c (both (ltb newline c) (plain a) p).0 in
    absurd (omega arith)
fields (c ∷ a) (d ∷ b) x y t p q l h =
    let e : c ≡ d = head_is _ _ _ _ h in
    let r = fields a b x y t (both (ltb newline c) (plain a) p).1 (both (ltb newline d) (plain b) q).1 l (tail_is _ _ _ _ h) in
    (rw (e, r.0), r.1)

digit_plain : (d : ℕ) → ltb newline (digit d) ≡ true
unfolding digit
digit_plain d = go (ltb d 10)
  where
    go : (t : Bool) → ltb newline (cond t (0x30 + d) (0x57 + d)) ≡ true
    go true = lt-ltb newline (0x30 + d) (omega arith)
    go false = lt-ltb newline (0x57 + d) (omega arith)

hex_plain : (k : Key) → plain (hex k) ≡ true
unfolding hex all
hex_plain [] = refl
hex_plain (b ∷ k) = rw (digit_plain (b / 16), digit_plain (b % 16)) (hex_plain k)

key_plain : (k : Key) → plain (key_text k) ≡ true
unfolding key_text dash all
key_plain [] = refl
key_plain (b ∷ k) = hex_plain (b ∷ k)

element_plain : (e : Element) → plain (element_text e) ≡ true
unfolding element_text max_word all
element_plain (key k) = key_plain k
element_plain max = refl

edge_plain : (e : Edge) → plain (edge_text e) ≡ true
unfolding edge_text dash dot all
edge_plain (edge []) = refl
edge_plain (edge (b ∷ k)) = hex_plain (b ∷ k)
edge_plain no_edge = refl

-- ---- a line, and what follows it

-- the fields behind the slot's number
abbrev pub behind : Element → Element → Edge → List ℕ → List ℕ
behind l r e x = element_text l ++ (tab ∷ (element_text r ++ (tab ∷ (key_text (PivotLcp l r) ++ (tab ∷ (edge_text e ++ (newline ∷ x)))))))

-- six texts one after the other
six : (a b c d e f x : List ℕ) → a ++ b ++ c ++ d ++ e ++ f ++ x ≡ a ++ (b ++ (c ++ (d ++ (e ++ (f ++ x)))))
six a b c d e f x =
    append_assoc (a ++ b ++ c ++ d ++ e) f x
    ∙ append_assoc (a ++ b ++ c ++ d) e (f ++ x)
    ∙ append_assoc (a ++ b ++ c) d (e ++ (f ++ x))
    ∙ append_assoc (a ++ b) c (d ++ (e ++ (f ++ x)))
    ∙ append_assoc a b (c ++ (d ++ (e ++ (f ++ x))))

pub line_is : (i : ℕ) (l r : Element) (e : Edge) (x : List ℕ) → slot_line i l r e ++ x ≡ decimal i ++ (tab ∷ behind l r e x)
unfolding slot_line
line_is i l r e x =
    six (decimal i) (tab ∷ element_text l) (tab ∷ element_text r) (tab ∷ key_text (PivotLcp l r)) (tab ∷ edge_text e) (newline ∷ []) x

module _ (l l' r r' : Element) (e e' : Edge) (x x' : List ℕ) where
  pub record Line : Type 0 where
    pub left : l ≡ l'
    pub right : r ≡ r'
    pub carries : e ≡ e'
    pub rest : x ≡ x'

  pub line_tells : (i : ℕ) → slot_line i l r e ++ x ≡ slot_line i l' r' e' ++ x' → Line
  line_tells i h =
      let n = length (decimal i) in
      let whole : decimal i ++ (tab ∷ behind l r e x) ≡ decimal i ++ (tab ∷ behind l' r' e' x') = sym (line_is i l r e x) ∙ h ∙ line_is i l' r' e' x' in
      let tabbed = sym (drop-append_seam (decimal i) _) ∙ ap (drop n) whole ∙ drop-append_seam (decimal i) _ in
      let a = fields (element_text l) (element_text l') _ _ tab (element_plain l) (element_plain l') (omega arith) (tail_is _ _ _ _ tabbed) in
      let b = fields (element_text r) (element_text r') _ _ tab (element_plain r) (element_plain r') (omega arith) a.1 in
      let c = fields (key_text (PivotLcp l r)) (key_text (PivotLcp l' r')) _ _ tab (key_plain _) (key_plain _) (omega arith) b.1 in
      let d = fields (edge_text e) (edge_text e') _ _ newline (edge_plain e) (edge_plain e') (omega arith) c.1 in
      record { left = element_tells l l' a.0; right = element_tells r r' b.0; carries = edge_tells e e' d.0; rest = d.1 }
