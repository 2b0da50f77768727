-- The loop that fills the register: after k turns the first k chunks stand in it, and the chunks from the place reached are the others.
use Rattle.std.proofs.Common.{◌≡◌, refl, sym, ap, ap₂, subst, ◌∙◌, ℕ, suc, Option, None, Some, ◌+◌, ◌≤◌, ◌<◌, false, List, [], ◌∷◌, ◌++◌, length, take, drop, get_or, add-one, arith}
use Rattle.std.proofs.Math.ListN.{set, length-set}
use Rattle.std.proofs.Math.Seq.{drop-cons, take-length}
use Rattle.std.proofs.lemmas.List.{length-take-le, take_all, take_more, take_more_set}
use Rattle.chunk.specs.declared.Entry.{Entry}
use Rattle.base.specs.declared.Words.{Words}
use Rattle.chunk.specs.Reading.{entry, reading, listed, next_from}
use Rattle.chunk.proofs.Steps.{stepped, ended}
use Rattle.chunk_reading.specs.declared.Survey.{Survey}
use Rattle.chunk_register.specs.declared.finder.Step.{Step}
use Rattle.chunk_register.specs.Register.{list_reply, list_room}
use Rattle.chunk_register.specs.Finder.{step_to, step_from}
use Rattle.chunk_register.proofs.Replies.{refused-or-listed}

-- n entries are to be stored, and these stand in their places
pub record Filling (sync : ℕ) (ws : List ℕ) (n : ℕ) (entries : List Entry) (k at : ℕ) : Type 0 where
  pub within : k ≤ n
  pub few : n ≤ length (reading sync ws)
  pub long : length entries ≡ n
  pub filled : take k entries ≡ take k (reading sync ws)
  pub ahead : listed sync at 0 (drop at ws) ≡ drop k (reading sync ws)

module _ (sync : ℕ) (ws : List ℕ) where
  -- a refusal stores no entry
  pub entries_fit : (before : List Entry) (r : Survey) → r ≡ list_reply sync ws (length before)
      → (r.chunks ≤ length (reading sync ws)) × (r.chunks ≤ length before)
  entries_fit before r e =
      rw e (refused-or-listed sync ws before (λ r l. (r.chunks ≤ length (reading sync ws)) × (r.chunks ≤ length before)) (λ v. (omega arith, omega arith))
      (λ h. (omega arith, h)))

  pub none_filled : (before : List Entry) (r : Survey) → r ≡ list_reply sync ws (length before) → Filling sync ws r.chunks (take r.chunks before) 0 0
  none_filled before r e =
      let b : (r.chunks ≤ length (reading sync ws)) × (r.chunks ≤ length before) = entries_fit before r e in
      record { within = omega arith; few = b.0; long = length-take-le r.chunks before b.1; filled = refl; ahead = refl }

  -- the step from a place where the chunk c and then others are listed
  module _ (at : ℕ) (c : Entry) (others : List Entry) (l : listed sync at 0 (drop at ws) ≡ c ∷ others) where
    by-found : (f : Option (Entry × Words)) → next_from sync ws at ≡ f → ((step_to f).entry ≡ c) × (listed sync (step_to f).end.0 0 (drop (step_to f).end.0 ws) ≡ others)
    unfolding step_to
    by-found None e = let q = (ended sync ws at e).lists in let z : ◌≡◌ {A = ℕ} 0 1 = cc in absurd (omega arith)
    by-found (Some (f, next)) e = let q = (stepped sync ws at f next e).lists in (cc, cc)

    step-found : (t : Step) → t ≡ step_from sync ws at → (t.entry ≡ c) × (listed sync t.end.0 0 (drop t.end.0 ws) ≡ others)
    unfolding step_from
    step-found t e = subst (λ (x : Step). (x.entry ≡ c) × (listed sync x.end.0 0 (drop x.end.0 ws) ≡ others)) (sym e)
        (by-found (next_from sync ws at) refl)

  module _ (n : ℕ) (entries : List Entry) (k at : ℕ) (f : Filling sync ws n entries k at) where
    pub entry_filled : k < length entries → (t : Step) → t ≡ step_from sync ws at → Filling sync ws n (set entries k t.entry) (k + 1) t.end.0
    entry_filled h t e =
        let none : Entry = entry 0 0 false in
        let there : k < length (reading sync ws) = omega (arith, f.few, f.long) in
        let l = f.ahead ∙ drop-cons (reading sync ws) k none there in
        let s = step-found at (get_or (reading sync ws) k none) (drop (suc k) (reading sync ws)) l t e in
        record {
          within = omega (arith, f.long);
          few = f.few;
          long = length-set entries k t.entry ∙ f.long;
          filled =
              take_more_set entries k t.entry h ∙ ap₂ (λ (es : List Entry) (c : Entry). es ++ c ∷ []) f.filled s.0
              ∙ sym (take_more (reading sync ws) k none there);
          ahead = s.1 ∙ ap (λ (m : ℕ). drop m (reading sync ws)) (sym (add-one k));
        }

    -- the entries stored, before those that keep their contents
    pub all_filled : length entries ≤ k → (before : List Entry) (r : Survey) → r ≡ list_reply sync ws (length before) → n ≡ r.chunks
        → entries ++ drop n before ≡ list_room sync ws before
    all_filled h before r e c =
        let m : n ≡ (list_reply sync ws (length before)).chunks = c ∙ ap (λ (x : Survey). x.chunks) e in
        let there : k ≡ n = omega (arith, f.within, f.long) in
        ap (λ (i : ℕ). entries ++ drop i before) m
        ∙ refused-or-listed sync ws before (λ r l. (es : List Entry) → es ≡ take r.chunks (reading sync ws) → es ++ drop r.chunks before ≡ l)
        (λ v es q. ap (λ (x : List Entry). x ++ before) q)
        (λ _ es q. ap (λ (x : List Entry). x ++ drop (length (reading sync ws)) before) (q ∙ take-length (reading sync ws)))
        entries (sym (take_all k entries h) ∙ f.filled ∙ ap (λ (i : ℕ). take i (reading sync ws)) (there ∙ m))
