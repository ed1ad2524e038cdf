-- What is asked of a join holds: an accepted one leaves a table whose keys are those of the two halves, translated as there, and which is cut back into them.
use Rattle.std.specs.Prelude.{Ok, Err}
use mathlib.Core.Path.{◌≡◌, refl, sym, ap, subst, ◌∙◌}
use mathlib.Core.Logic.{◌⊎◌, inl, inr}
use mathlib.Core.Bool.{Bool, true, false, cond, not, true≢false}
use mathlib.Core.List.{List, [], ◌∷◌, ◌++◌}
use mathlib.Core.Option.{none, some}
use Prim.Native.Nat.{ℕ, ◌+◌, ◌*◌, ◌≤◌, ◌<◌}
use native.Mathlib.Omega.{arith}
use borrow.Author.Tests.{le-ltb, lt-ltb, leb-true}
use lib.ListN.{length, drop}
use Rattle.model.specs.declared.Refusal.{Refusal}
use Rattle.model.specs.declared.Refusal.TheVariants.{NoRoom, TooManyPivots, NotMeeting}
use Rattle.model.specs.keys.Key.{Key, Bytes, max_len, too_long}
use Rattle.model.specs.keys.Order.{key, BytesE, lte}
use Rattle.model.specs.records.Record.{record_size, elements, edges, encode_all, encode_edges}
use Rattle.model.specs.tables.Tables.{PivotTable, EdgeTable, max_pivots, pivot_at, last_pivot, all, short_edge, WFPivots, WFEdges, BytesT, BoundedKey, GetKey}
use Rattle.model.specs.calls.Refusals.{◌⇒◌, outcome, first}
use Rattle.model.specs.calls.TableCalls.{table_causes, wf_edges_answer, bounded_key_answer}
use Rattle.model.specs.calls.CutCalls.{cut_pivots, cut_edges, write_causes}
use Rattle.model.specs.calls.InsertionCalls.{too_many_pivots}
use Rattle.model.specs.calls.JoinCalls.{joined_pivots, joined_edges, meeting_causes, join_causes}
use Rattle.model.specs.cuts.TwoOrders.{Dests, NoShorter, End, wrote, refused, accepted, TranslatedAlike}
use Rattle.model.specs.cuts.Joined.{join, OnlyIn, GivesBack, Joined, JoinKept, JoinTaken, JoinRefused, Joins}
use Rattle.model.proofs.calls.Refusals.{passed, after, refused_first, none_before}
use Rattle.model.proofs.calls.TableCalls.{table_bytes, table_wf}
use Rattle.model.proofs.calls.TableAnswers.{answered_yes, bounded_says, says_bounded}
use Rattle.model.proofs.calls.Writing.{short_room}
use Rattle.model.proofs.calls.WrittenTables.{wf_table_causes}
use Rattle.model.proofs.calls.Alike.{alike}
use Rattle.model.proofs.calls.JoinCalls.{first_table, second_table, join_pivots_bytes, join_edges_bytes, join_edges_short, join_tables, join_joinable, join_few, meeting_first, apart_first}
use Rattle.model.proofs.records.Records.{length-encode_all, length-encode_edges, elements-encode_all, edges-encode_edges}
use Rattle.model.proofs.tables.Routing.{wf_all_short, wf_count, wf_short}
use Rattle.model.proofs.cuts.Between.{bytes_at}
use Rattle.model.proofs.cuts.Ends.{full, end_by, ends_refused, write_ends, wrote_none, ends_as_lent}
use Rattle.model.proofs.cuts.OneCut.{Cuttable, cut_ends}
use Rattle.model.proofs.cuts.Join.{join_count, Joinable, join_length, join_wf, join_edges_wf, join_bytes, join_inside, join_split, join_split_edges, join_first_bounded, join_second_bounded, join_preserved}

-- ---- a join that has none of the causes 1 to 4, 13 and 12

module _ (p e q f : List ℕ) (h : first (meeting_causes p e q f) ≡ none) where
  -- the joined pivots and edges
  abbrev pt : PivotTable
  pt = joined_pivots p q

  abbrev et : EdgeTable
  et = joined_edges e f

  -- the key where they meet
  abbrev k : Key
  k = GetKey (elements q) 0

  can : Joinable (elements p) (elements q) (edges e) (edges f) k
  can = join_joinable p e q f h

  -- the edges are short
  short : all short_edge et ≡ true
  short = join_edges_short p e q f (join_tables p e q f h)

  -- the halves are tables
  old_table : (left : Bool) → first (table_causes false false (cond left p q) (cond left e f)) ≡ none
  old_table true = first_table p e q f (join_tables p e q f h)
  old_table false = second_table p e q f (join_tables p e q f h)

  half_pivots : (left : Bool) → elements (cond left p q) ≡ cond left (elements p) (elements q)
  half_pivots true = refl
  half_pivots false = refl

  half_edges_lem : (left : Bool) → edges (cond left e f) ≡ cond left (edges e) (edges f)
  half_edges_lem true = refl
  half_edges_lem false = refl

  -- the joined table is well formed, as its halves are
  new_wf : WFPivots pt ≡ true
  new_wf = join_wf can

  new_fits : WFEdges et pt ≡ true
  new_fits = join_edges_wf can

  new_table : first (table_causes false false (encode_all pt) (encode_edges et)) ≡ none
  new_table = wf_table_causes pt et new_wf (join_few p e q f h) new_fits short false refl

  pivots_back : elements (encode_all pt) ≡ pt
  pivots_back = elements-encode_all pt (wf_all_short pt new_wf)

  edges_back : edges (encode_edges et) ≡ et
  edges_back = edges-encode_edges et short

  -- it ends where what it writes, and the room for it, say
  pub join_ends : (d : Dests) → join d p e q f ≡ end_by true (full pt et d) pt et
  join_ends d = write_ends pt et d new_wf new_fits (join_causes p e q f d.for_pivots d.for_edges) only ∙ rw short
    where
      only : first (join_causes p e q f d.for_pivots d.for_edges) ≡ first (write_causes pt et d.for_pivots d.for_edges)
      only = sym (after some none _ (meeting_causes p e q f) _ h (short_room some none pt et d.for_pivots d.for_edges short))

  module _ (bp : Bytes p) (be : Bytes e) (bq : Bytes q) (bf : Bytes f) where
    old_bytes_lem : (left : Bool) → BytesT (elements (cond left p q))
    old_bytes_lem true = table_bytes false false p e (old_table true) bp
    old_bytes_lem false = table_bytes false false q f (old_table false) bq

    key_bytes_lem : Bytes k
    key_bytes_lem = go (rw can.begins at (bytes_at (elements q) 0 (old_bytes_lem false)))
      where
        go : BytesE (key k) → Bytes k
        go b = b

    -- a key of a half is translated as there
    in_half : (left : Bool) (j : Key) → Bytes j → BoundedKey (elements (cond left p q)) j ≡ true → BoundedKey pt j ≡ true
        → TranslatedAlike (cond left p q) (cond left e f) (encode_all pt) (encode_edges et) j
    in_half left j d v w =
        alike (cond left p q) (cond left e f) (encode_all pt) (encode_edges et) j (old_table left) new_table v (rw pivots_back w)
        (rw (pivots_back, edges_back, half_pivots left, half_edges_lem left)
        (join_preserved can (old_bytes_lem true) (old_bytes_lem false) key_bytes_lem left j d (rw (half_pivots left) at v)))

    -- each key is one of exactly one half
    joined_keys : (j : Key) → Bytes j → bounded_key_answer (encode_all pt) j ≡ Ok true
        → OnlyIn p e q (encode_all pt) (encode_edges et) j ⊎ OnlyIn q f p (encode_all pt) (encode_edges et) j
    joined_keys j d y = go (lte (key k) (key j)) refl
      where
        s : (too_long j ≡ false) × (BoundedKey pt j ≡ true)
        s = rw pivots_back at (says_bounded (encode_all pt) (encode_edges et) new_table j true y)

        in_first : (t : Bool) → lte (key k) (key j) ≡ t → BoundedKey (elements p) j ≡ not t
        in_first t m = join_first_bounded can j ∙ rw (s.1, m)

        in_second : (t : Bool) → lte (key k) (key j) ≡ t → BoundedKey (elements q) j ≡ t
        in_second t m = join_second_bounded can j ∙ rw (s.1, m)

        go : (t : Bool) → lte (key k) (key j) ≡ t → OnlyIn p e q (encode_all pt) (encode_edges et) j ⊎ OnlyIn q f p (encode_all pt) (encode_edges et) j
        go false m =
            inl (record {
              inside = bounded_says p e (old_table true) j s.0 true (in_first false m);
              outside = bounded_says q f (old_table false) j s.0 false (in_second false m);
              alike = in_half true j d (in_first false m) s.1;
            })
        go true m =
            inr (record {
              inside = bounded_says q f (old_table false) j s.0 true (in_second true m);
              outside = bounded_says p e (old_table true) j s.0 false (in_first true m);
              alike = in_half false j d (in_second true m) s.1;
            })

    -- and no other key is one of either
    other_keys : (j : Key) → bounded_key_answer (encode_all pt) j ≡ Ok false → (bounded_key_answer p j ≡ Ok false) × (bounded_key_answer q j ≡ Ok false)
    other_keys j n =
        let s : (too_long j ≡ false) × (BoundedKey pt j ≡ false) = rw pivots_back at (says_bounded (encode_all pt) (encode_edges et) new_table j false n) in (
          bounded_says p e (old_table true) j s.0 false (join_first_bounded can j ∙ rw s.1),
          bounded_says q f (old_table false) j s.0 false (join_second_bounded can j ∙ rw s.1),
        )

    -- it can be cut where they meet
    cuttable : (left : Bool) → Cuttable left k (encode_all pt) (encode_edges et)
    cuttable left =
        record {
          table = new_table;
          bytes = rw pivots_back (join_bytes can (old_bytes_lem true) (old_bytes_lem false));
          size = leb-true (length k) max_len (rw can.begins at (wf_short (elements q) can.second_wf 0 (omega (arith, wf_count (elements q) can.second_wf))));
          key_is = key_bytes_lem;
          here = rw pivots_back (join_inside can left);
        }

    -- into the halves
    back : (left : Bool) → Bytes (cond left p q) → Bytes (cond left e f) → GivesBack left k (encode_all pt) (encode_edges et) (cond left p q) (cond left e f)
    back left b c d n =
        let x : cut_pivots left (encode_all pt) k ≡ elements (cond left p q) = rw (half_pivots left, pivots_back) (join_split can left) in
        let y : cut_edges left (encode_all pt) (encode_edges et) k ≡ edges (cond left e f) = rw (half_edges_lem left, pivots_back, edges_back) (join_split_edges can left) in
        cut_ends (cuttable left) d ∙ rw (x, y) (ends_as_lent (cond left p q) (cond left e f) d (old_table left) b c n)

    -- so it leaves what is asked
    leaves_joined : Joined p e q f (length pt) (encode_all pt) (encode_edges et)
    leaves_joined =
        record {
          table = sym (passed Err (Ok true) (Ok true) _ new_table refl);
          pivots = join_pivots_bytes p e q f (join_tables p e q f h) bp bq;
          edges = join_edges_bytes p e q f (join_tables p e q f h) be bf;
          count = join_length can;
          keys = joined_keys;
          others = other_keys;
          halves = halves;
        }
      where
        halves : (i : Key) → pivot_at (elements q) 0 ≡ key i → GivesBack true i (encode_all pt) (encode_edges et) p e × GivesBack false i (encode_all pt) (encode_edges et) q f
        halves i x =
            let y : k ≡ i = let z = can.begins in cc in
            rw (← y) (back true bp be, back false bq bf)

    -- and destinations no shorter than that are enough
    room_accepted : (d : Dests) → NoShorter (p ++ drop record_size q) (e ++ f) d → accepted (join d p e q f) ≡ true
    room_accepted d n =
        let l = length-encode_all pt (wf_all_short pt new_wf) in
        let m = length-encode_edges et short in
        let u = ap length (join_pivots_bytes p e q f (join_tables p e q f h) bp bq) in
        let v = ap length (join_edges_bytes p e q f (join_tables p e q f h) be bf) in
        let x = le-ltb (length d.for_pivots) (length pt * record_size) (omega (arith, n.pivots)) in
        let y = le-ltb (length d.for_edges) (length et * record_size) (omega (arith, n.edges)) in
        rw (join_ends d, x, y)

-- ---- the claim

-- two tables that pass the check and meet
module _ (p e q f : List ℕ) (y : wf_edges_answer p e ≡ Ok true) (z : wf_edges_answer q f ≡ Ok true) (m : last_pivot (elements p) ≡ pivot_at (elements q) 0) where
  only_many : first (meeting_causes p e q f) ≡ first ((too_many_pivots (joined_pivots p q) ⇒ TooManyPivots) ∷ [])
  only_many = meeting_first p e q f (answered_yes p e y) (answered_yes q f z) m

  counted : length (joined_pivots p q) + 1 ≡ length (elements p) + length (elements q)
  counted =
      join_count (elements p) (elements q) (omega (arith, wf_count (elements q) (table_wf false false q f (answered_yes q f z))))

  -- at most 64 pivots are no cause
  few_none : length (elements p) + length (elements q) ≤ max_pivots + 1 → first (meeting_causes p e q f) ≡ none
  unfolding outcome
  few_none c = let n = counted in only_many ∙ rw (le-ltb max_pivots (length (joined_pivots p q)) (omega arith))

  -- more are 12
  many_first : max_pivots + 1 < length (elements p) + length (elements q) → first (meeting_causes p e q f) ≡ some TooManyPivots
  unfolding outcome
  many_first c = let n = counted in only_many ∙ rw (lt-ltb max_pivots (length (joined_pivots p q)) (omega arith))

pub joins : Joins
joins p e q f d bp be bq bf = (kept (join d p e q f) refl, taken, refusals)
  where
    kept : (x : End) → join d p e q f ≡ x → JoinKept p e q f x
    kept (refused r) a = tt
    kept (wrote n p' e') a = go (full (joined_pivots p q) (joined_edges e f) d) refl
      where
        h : first (meeting_causes p e q f) ≡ none
        h = none_before (meeting_causes p e q f) _ (wrote_none (join_causes p e q f d.for_pivots d.for_edges) (length (joined_pivots p q)) _ _ n p' e' a)

        go : (t : Bool) → full (joined_pivots p q) (joined_edges e f) d ≡ t → Joined p e q f n p' e'
        go true x =
            let w : wrote n p' e' ≡ refused NoRoom = sym a ∙ join_ends p e q f h d ∙ rw x in
            absurd (true≢false (ap accepted w))
        go false x =
            let w : wrote (length (joined_pivots p q)) (encode_all (joined_pivots p q)) (encode_edges (joined_edges e f)) ≡ wrote n p' e' = sym (join_ends p e q f h d ∙ rw x) ∙ a in
            subst (JoinKept p e q f) w (leaves_joined p e q f h bp be bq bf)

    taken : JoinTaken p e q f d
    taken y z m c = room_accepted p e q f (few_none p e q f y z m c) bp be bq bf d

    ends_at : (r : Refusal) → first (meeting_causes p e q f) ≡ some r → join d p e q f ≡ refused r
    ends_at r h = ends_refused _ _ _ _ _ _ r (sym (refused_first some none (some r) (meeting_causes p e q f) _ r h refl))

    refusals : JoinRefused p e q f d
    refusals =
        record {
          apart = λ y z n. ends_at NotMeeting (apart_first p e q f (answered_yes p e y) (answered_yes q f z) n);
          many = λ y z m c. ends_at TooManyPivots (many_first p e q f y z m c);
        }
