-- Reading a stimulus line by line.
use Rattle.std.proofs.Common.{◌≡◌, ℕ, ◌+◌, ◌<◌, ◌≤◌, List, [], ◌∷◌, length, drop, Option, Some, None, Result, Ok, Err, refl, sym, ap, ◌∙◌, arith, drop-drop}
use Rattle.std.proofs.Math.ListN.{drop_of_length-le}
use Rattle.std.proofs.lemmas.List.{length-drop}
use Rattle.av_net.specs.declared.netlist.Port.{Port}
use Rattle.av_data.specs.declared.stimulus.Given.{Given}
use Rattle.av_data.specs.declared.stimulus.Stimulus.{Stimulus}
use Rattle.av_data.specs.declared.fault.DataFault.{DataFault}
use Rattle.av_data.specs.declared.fault.DataFault.TheVariants.{DataSyntax, DataUnknown, DataOutside, DataTwice, DataMissing, Memory}
use Rattle.av_data.specs.Lines.{data_lines}
use Rattle.av_data.specs.Reading.{first_line, line_size, cycles_at, value_at, stimulus_from, ◌>>=◌, FaultIs}
use Rattle.av_data.proofs.FirstLines.{first_of, size_some, size_within}

-- a fault of a part is one of the whole
pub raised : {A B : Type 0} (fault : DataFault) (part : Result A DataFault) (whole : Result B DataFault) → (part ≡ Err fault → whole ≡ Err fault) → FaultIs fault part → FaultIs fault whole
raised Memory part whole h e = tt
raised (DataSyntax l) part whole h e = h e
raised (DataUnknown l) part whole h e = h e
raised (DataOutside l) part whole h e = h e
raised (DataTwice l) part whole h e = h e
raised (DataMissing name point) part whole h e = h e

-- where some bytes are left, there is a line
pub line_left : (bytes : List ℕ) (at : ℕ) → at < length bytes → data_lines (drop at bytes) ≡ first_line (drop at bytes) ∷ data_lines (drop (at + line_size (drop at bytes)) bytes)
line_left bytes at lt = by (drop at bytes) refl
  where
    by : (rest : List ℕ) → drop at bytes ≡ rest → data_lines rest ≡ first_line rest ∷ data_lines (drop (at + line_size rest) bytes)
    by [] e = absurd (omega (arith, length-drop at bytes, ap length e))
    by (b ∷ rest) e = first_of b rest ∙ ap (λ (ys : List ℕ). first_line (b ∷ rest) ∷ data_lines ys) (ap (drop (line_size (b ∷ rest))) (sym e) ∙ drop-drop (line_size (b ∷ rest)) at bytes)

-- it has a byte, and no more than are left
pub size_left : (bytes : List ℕ) (at : ℕ) → at < length bytes → (0 < line_size (drop at bytes)) × (at + line_size (drop at bytes) ≤ length bytes)
size_left bytes at lt = (by (drop at bytes) refl, (let within = size_within (drop at bytes) in omega (arith, length-drop at bytes, within)))
  where
    by : (rest : List ℕ) → drop at bytes ≡ rest → 0 < line_size rest
    by [] e = absurd (omega (arith, length-drop at bytes, ap length e))
    by (b ∷ rest) e = size_some b rest

module _ (inputs : List Port) (bytes : List ℕ) (total : Result Stimulus DataFault) where
  -- from here on the lines tell the whole
  abbrev pub Tells : Option ℕ → List Given → ℕ → ℕ → Type 0
  Tells cycles values k at = stimulus_from inputs cycles values k (data_lines (drop at bytes)) ≡ total

  first_turn : (values : List Given) (k at : ℕ) → Tells None values k at → at < length bytes
      → (cycles_at k (first_line (drop at bytes)) >>= λ cycles. stimulus_from inputs cycles values (k + 1) (data_lines (drop (at + line_size (drop at bytes)) bytes))) ≡ total
  unfolding stimulus_from
  first_turn values k at so lt = ap (stimulus_from inputs None values k) (sym (line_left bytes at lt)) ∙ so

  later_turn : (n : ℕ) (values : List Given) (k at : ℕ) → Tells (Some n) values k at → at < length bytes
      → (value_at inputs n k values (first_line (drop at bytes)) >>= λ more. stimulus_from inputs (Some n) more (k + 1) (data_lines (drop (at + line_size (drop at bytes)) bytes))) ≡ total
  unfolding stimulus_from
  later_turn n values k at so lt = ap (stimulus_from inputs (Some n) values k) (sym (line_left bytes at lt)) ∙ so

  pub cycles_read : (values : List Given) (k at : ℕ) (cycles : Option ℕ) → Tells None values k at → at < length bytes → cycles_at k (first_line (drop at bytes)) ≡ Ok cycles
      → Tells cycles values (k + 1) (at + line_size (drop at bytes))
  cycles_read values k at cycles so lt e =
      ap (λ r. r >>= λ cycles. stimulus_from inputs cycles values (k + 1) (data_lines (drop (at + line_size (drop at bytes)) bytes))) (sym e) ∙ first_turn values k at so lt

  pub cycles_failed : (values : List Given) (k at : ℕ) (fault : DataFault) → Tells None values k at → at < length bytes → FaultIs fault (cycles_at k (first_line (drop at bytes))) → FaultIs fault total
  cycles_failed values k at fault so lt e =
      raised fault (cycles_at k (first_line (drop at bytes))) total
      (λ (e : cycles_at k (first_line (drop at bytes)) ≡ Err fault). sym (first_turn values k at so lt) ∙ ap (λ r. r >>= λ cycles. stimulus_from inputs cycles values (k + 1) (data_lines (drop (at + line_size (drop at bytes)) bytes))) e)
      e

  pub value_read : (n : ℕ) (values more : List Given) (k at : ℕ) → Tells (Some n) values k at → at < length bytes → value_at inputs n k values (first_line (drop at bytes)) ≡ Ok more
      → Tells (Some n) more (k + 1) (at + line_size (drop at bytes))
  value_read n values more k at so lt e =
      ap (λ r. r >>= λ more. stimulus_from inputs (Some n) more (k + 1) (data_lines (drop (at + line_size (drop at bytes)) bytes))) (sym e) ∙ later_turn n values k at so lt

  pub value_failed : (n : ℕ) (values : List Given) (k at : ℕ) (fault : DataFault) → Tells (Some n) values k at → at < length bytes → FaultIs fault (value_at inputs n k values (first_line (drop at bytes))) → FaultIs fault total
  value_failed n values k at fault so lt e =
      raised fault (value_at inputs n k values (first_line (drop at bytes))) total
      (λ (e : value_at inputs n k values (first_line (drop at bytes)) ≡ Err fault). sym (later_turn n values k at so lt) ∙ ap (λ r. r >>= λ more. stimulus_from inputs (Some n) more (k + 1) (data_lines (drop (at + line_size (drop at bytes)) bytes))) e)
      e

  pub ends_without : (values : List Given) (k at : ℕ) → Tells None values k at → length bytes ≤ at → total ≡ Err (DataSyntax k)
  unfolding stimulus_from
  ends_without values k at so le = sym so ∙ ap (λ ys. stimulus_from inputs None values k (data_lines ys)) (drop_of_length-le bytes le)

  pub ends_with : (n : ℕ) (values : List Given) (k at : ℕ) → Tells (Some n) values k at → length bytes ≤ at → total ≡ Ok (record { cycles = n; values = values })
  unfolding stimulus_from
  ends_with n values k at so le = sym so ∙ ap (λ ys. stimulus_from inputs (Some n) values k (data_lines ys)) (drop_of_length-le bytes le)
