-- What `why` comes to: a refusal, or the ground at the state after the event.
-- Assumes nothing.
use mathlib.Core.Path.{◌≡◌, refl, ◌∙◌}
use mathlib.Core.List.{List, []}
use Prim.Native.Nat.{ℕ, ◌-◌, ◌≤◌, ◌<◌}
use native.Mathlib.Omega.{arith}
use lib.ListN.{length, get_or, take, drop}
use lib.Seq.{take_all}
use borrow.Author.Tests.{le-leb, lt-leb}
use Rattle.rule.specs.Drawing.{Drawing, body, next}
use Rattle.rule.specs.Operations.{reach_of, operation_pairs, operation_joint, operation_at}
use Rattle.rule.specs.Acceptance.{good_of}
use Rattle.rule.specs.Reach.{target}
use Rattle.rule.specs.Refusals.{first_of}
use Rattle.rule.specs.WellDrawn.{WellDrawn}
use Rattle.rule.specs.declared.Pair.{Pair}
use Rattle.rule.specs.declared.Refusal.{Refusal}
use Rattle.rule.specs.declared.Refusal.TheVariants.{Run, Code}
use Rattle.rule.proofs.PutLaws.{keeps_refused}
use Rattle.rule.proofs.WayLaws.{closed_low}
use Rattle.rulefile.specs.Layout.{drawing_in}
use Rattle.rulefile.specs.Reading.{verdict_on, parts_of}
use Rattle.rulefile.specs.declared.Contents.{Contents}
use Rattle.rulefile.proofs.PartsLaws.{SoundParts, sound_file, sound_parts, parts_refused, parts_sound}
use Rattle.rulefile.proofs.WellLaws.{file_well}
use Rattle.why.specs.Grounds.{wanted_pair, goal_set, way_for, way_told}
use Rattle.why.specs.Why.{why_verdict, GroundPromise, WhyPromise}
use Rattle.why.specs.declared.Ground.{Ground}
use Rattle.rule.specs.Verdict.{Verdict}
use Rattle.std.specs.Prelude.{Ok, Err, Result}

-- a drawing without its note is as well drawn, and has the same grounds
abbrev bare : Drawing → Drawing
bare d = record { shape = d.shape; note = []; table = d.table; pairs = d.pairs }

bare_well : (d : Drawing) → WellDrawn d → WellDrawn (bare d)
bare_well d w =
    record {
      few_states = w.few_states;
      initial_in = w.initial_in;
      closed = w.closed;
      whole = w.whole;
      R_in = w.R_in;
      P_in = w.P_in;
      none_into = w.none_into;
    }

bare_ground : {v : Verdict} (d : Drawing) {t : ℕ} {out : List ℕ} {g : Result Ground Refusal} {out' : List ℕ}
    → GroundPromise v (bare d) t out g out' → GroundPromise v d t out g out'
unfolding operation_at operation_pairs operation_joint good_of reach_of wanted_pair goal_set way_for way_told
bare_ground d q = record { written = q.written; put = q.put; answer = q.answer }

-- a refusal leaves all as it is
refused_ground : {v : Verdict} (d : Drawing) (t : ℕ) (out : List ℕ) {r : Refusal} → v ≡ Err r → GroundPromise v d t out (Err r) out
refused_ground d t out {r} q = record { written = Err r; put = keeps_refused q; answer = refl }

module _ (f : List ℕ) (s e : ℕ) (out : List ℕ) where
  pub why_refused : {r : Refusal} → Err r ≡ parts_of f → WhyPromise f s e out (Err r) out
  unfolding why_verdict first_of
  why_refused q = refused_ground _ _ out (rw (parts_refused f q))

module _ (f : List ℕ) {p : Contents} (is : Ok p ≡ parts_of f) (s e : ℕ) where
  parts : SoundParts f p
  parts = sound_parts f is

  sound_is : verdict_on f ≡ Ok tt
  sound_is = parts_sound f is

  pub why_state : (out : List ℕ) → p.shape.states ≤ s → WhyPromise f s e out (Err Run) out
  unfolding why_verdict first_of
  why_state out h = refused_ground _ _ out (rw (sound_is, ← parts.drawn, le-leb _ s h))

  module _ (in-state : s < p.shape.states) where
    pub why_event : (out : List ℕ) → p.shape.events ≤ e → WhyPromise f s e out (Err Code) out
    unfolding why_verdict first_of
    why_event out h = refused_ground _ _ out (rw (sound_is, ← parts.drawn, lt-leb _ s in-state, le-leb _ e h))

    module _ (in_event : e < p.shape.events) where
      sound_for : why_verdict f s e ≡ Ok tt
      unfolding why_verdict first_of
      sound_for = rw (sound_is, ← parts.drawn, lt-leb _ s in-state, lt-leb _ e in_event)

      abbrev pub table_in : List ℕ
      table_in = take (p.end - p.start) (drop p.start f)

      abbrev pub pairs_in : List Pair
      pairs_in = take p.shape.pairs p.pairs

      -- what is asked of the parts
      used : take p.shape.pairs pairs_in ≡ (drawing_in f).pairs
      used = take_all p.shape.pairs pairs_in (rw parts.pairs_is (omega (arith, parts.pairs_long))) ∙ parts.pairs_is

      body_is : body p.shape table_in pairs_in ≡ bare (drawing_in f)
      body_is = rw (used, parts.table_is, parts.drawn)

      pub why_well : WellDrawn (body p.shape table_in pairs_in)
      why_well = rw body_is (bare_well (drawing_in f) (file_well f (sound_file f sound_is)))

      pub why_in : (t : ℕ) → t ≡ target table_in p.shape.events s e → t < p.shape.states
      why_in t q = rw q (why_well.closed s e in-state in_event)

      pub why_few : p.shape.pairs ≤ 8
      why_few = parts.ranged.few_pairs

      pub why_used : length pairs_in ≡ p.shape.pairs
      why_used = rw parts.pairs_is parts.pairs_long

      pub why_low : (i : ℕ) → get_or table_in i 0 < p.shape.states
      why_low =
          closed_low _ p.shape.states p.shape.events parts.ranged.numbers.some_states parts.ranged.numbers.some_events
          (rw (parts.table_is, parts.table_long)) why_well.closed

      pub why_judged : (t : ℕ) {out : List ℕ} {g : Result Ground Refusal} {out' : List ℕ}
          → t ≡ target table_in p.shape.events s e → GroundPromise (Ok tt) (body p.shape table_in pairs_in) t out g out' → WhyPromise f s e out g out'
      why_judged t q g =
          let n : t ≡ next (drawing_in f) s e = q ∙ rw (parts.table_is, parts.drawn) in
          rw (sound_for, ← n) (bare_ground (drawing_in f) (rw body_is at g))
