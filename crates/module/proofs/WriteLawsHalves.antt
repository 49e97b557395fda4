-- An upper half alone, and what is held after each write.
use Rattle.std.proofs.Common.{◌≡◌, ℕ, ◌+◌, ◌/◌, ◌%◌, Some, None, Option, Ok, Err, Result, refl, ap, ◌∙◌}
use Rattle.registers.specs.declared.fault.ModuleFault.{ModuleFault}
use Rattle.registers.specs.declared.place.ModuleWord.{ModuleWord}
use Rattle.registers.specs.declared.place.ModuleWord.TheVariants as mw
use Rattle.registers.specs.declared.place.ModuleValue.TheVariants as mv
use Rattle.registers.specs.declared.place.WordRegister.{WordRegister}
use Rattle.registers.specs.declared.place.WordRegister.TheVariants as wr
use Rattle.registers.specs.declared.place.ValueRegister.{ValueRegister}
use Rattle.registers.specs.declared.place.ValueRegister.TheVariants as vr
use Rattle.registers.specs.declared.place.Place.{Place}
use Rattle.registers.specs.declared.place.Place.TheVariants as place
use Rattle.registers.specs.Map.{located}
use Rattle.table.specs.declared.records.Half.{Half}
use Rattle.table.specs.declared.records.Table.{Table}
use Rattle.table.specs.declared.writing.Request.{Request}
use Rattle.table.specs.declared.writing.Request.TheVariants as request
use Rattle.table.specs.Parts.{half, with_held}
use Rattle.table.specs.Reads.{module_word, word_read, bits_read, place_read, read_at}
use Rattle.table.specs.Writes.{collected, released, served, served_answer}
use Rattle.module.specs.State.{State, count, word_answer, write_levels, done}
use Rattle.module.specs.WriteLaws.{HalfAlone, HeldAfter}
use Rattle.module.proofs.WriteLawsRequests.{asked, upper_holds, other_no_hold}
use Rattle.module.proofs.WriteLawsOrders.{carried_within}

-- the state after a write that asks for q
abbrev pub after : State → ℕ → ℕ → Result Request ModuleFault → State
after s o w q = record {
  table = collected (count s) (served (count s) s.table q);
  levels = write_levels s.levels (served_answer (count s) s.table o q);
}

module _ (n : ℕ) (t : Table) (h : Option Half) where
  module_word_unread : (r : ModuleWord) → module_word n (with_held t h) r ≡ module_word n t r
  module_word_unread mw.Status = refl
  module_word_unread mw.Control = refl
  module_word_unread mw.EventStatus = refl
  module_word_unread mw.EventMask = refl
  module_word_unread mw.EventChannelStatus = refl
  module_word_unread mw.EventChannelMask = refl
  module_word_unread mw.PlacedChannels = refl
  module_word_unread mw.DeviceClass = refl

  word_unread : (r : WordRegister) → word_read n (with_held t h) r ≡ word_read n t r
  word_unread (wr.Module r) = module_word_unread r
  word_unread (wr.Channel k r) = refl

  bits_unread : (r : ValueRegister) → bits_read (with_held t h) r ≡ bits_read t r
  bits_unread (vr.Module mv.VoltageRampSpeed) = refl
  bits_unread (vr.Module mv.VoltageMax) = refl
  bits_unread (vr.Module mv.CurrentMax) = refl
  bits_unread (vr.Module mv.Temperature) = refl
  bits_unread (vr.Channel k r) = refl
  bits_unread (vr.Group r) = refl

  place_unread : (p : Place) → place_read n (with_held t h) p ≡ place_read n t p
  place_unread (place.Word r) = word_unread r
  place_unread (place.Upper r) = ap (λ (b : ℕ). b / 65536) (bits_unread r)
  place_unread (place.Lower r) = ap (λ (b : ℕ). b % 65536) (bits_unread r)

  -- no read answers what is held
  held_unread : (x : Result Place ModuleFault) → read_at n (with_held t h) x ≡ read_at n t x
  held_unread (Ok p) = ap Ok (place_unread p)
  held_unread (Err f) = refl

pub half_alone : HalfAlone
half_alone s o w r h =
    let e = upper_holds s o w r h in
    record {
      answer = ap (λ (q : Result Request ModuleFault). done (served_answer (count s) s.table o q)) e;
      words = λ p. ap (λ (q : Result Request ModuleFault). word_answer (after s o w q) p) e ∙ held_unread (count s) (collected (count s) s.table) (Some (half (o + 2) w)) (located (count s) p);
      levels = ap (λ (q : Result Request ModuleFault). (after s o w q).levels) e;
    }

nothing_held : (s : State) (o w : ℕ) (q : Result Request ModuleFault) → ((h : Half) → q ≡ Ok (request.Hold h) → ⊥) → (after s o w q).table.held ≡ None
nothing_held s o w (Ok (request.Hold u)) none = absurd (none u refl)
nothing_held s o w (Ok (request.Carry x)) none = (carried_within (count s) (released s.table) x).kept.0
nothing_held s o w (Err f) none = refl

pub held_after : HeldAfter
held_after = record {
  upper = λ s o w r h. ap (λ (q : Result Request ModuleFault). (after s o w q).table.held) (upper_holds s o w r h);
  others = λ s o w none. nothing_held s o w (asked s o w) (other_no_hold s o w none);
}
