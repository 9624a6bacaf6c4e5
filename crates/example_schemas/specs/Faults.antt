-- Devices that serve so many calls and then fail each time, with a kind of the caller's.
use Rattle.std.specs.Prelude.{◌≡◌, ℕ, ◌+◌, min, Bool, List, length, true, false, None}
use Rattle.std.specs.Borrow.{GName}
use Rattle.std.specs.declared.io.ErrorKind.{ErrorKind}
use Rattle.wincode_io.specs.Failures.{IsTold}
use Rattle.wincode_io.specs.Readers.{ReaderState, nothing}
use Rattle.wincode_io.specs.Writers.{WriterState, byte_limit}
use Rattle.wincode_io.specs.SliceWriters.{SliceState, slice_put, slice_room}
use Rattle.wincode_io.specs.declared.error.ReadError.{ReadError}
use Rattle.wincode_io.specs.declared.error.ReadError.TheVariants as reader
use Rattle.wincode_io.specs.declared.error.WriteError.{WriteError}
use Rattle.wincode_io.specs.declared.error.WriteError.TheVariants as writer

-- How many calls more it serves, how often it failed, whether it did, and the kind that it fails with.
pub record DeviceState : Type 0 where
  pub sound : ℕ
  pub failures : ℕ
  pub has_failed : Bool
  pub last : ErrorKind

-- a device that serves so many calls, has not failed, and fails with this kind
abbrev pub sound_device : ℕ → ErrorKind → DeviceState
sound_device sound kind = record { sound = sound; failures = 0; has_failed = false; last = kind }

-- it was asked with k + 1 calls left, and served: k are left
abbrev pub HasServed : DeviceState → DeviceState → Type 0
HasServed old new = (old.sound ≡ new.sound + 1) × (new ≡ record old { sound = new.sound })

-- it was asked with no call left, and failed: none is left; the count of its failures stays at `usize::MAX`
abbrev pub HasFailed : DeviceState → DeviceState → Type 0
HasFailed old new = (old.sound ≡ 0) × (new ≡ record old { failures = min (old.failures + 1) byte_limit; has_failed = true })

-- A reader that asked its device once was refused: the device failed, with its own kind the first time and Other
-- afterwards; or it served, and too few bytes are there.
abbrev pub AskedReadRefused : DeviceState → DeviceState → ReadError → Type 0
AskedReadRefused old new (reader.Io e) = HasFailed old new × IsTold old.has_failed new.has_failed new.last e
AskedReadRefused old new (reader.ReadSizeLimit n) = HasServed old new
AskedReadRefused old new _ = ⊥

-- A writer that asked its device once was refused: the device failed, with its own kind the first time and Other
-- afterwards; or it served, and there is too little room.
abbrev pub AskedWriteRefused : DeviceState → DeviceState → WriteError → Type 0
AskedWriteRefused old new (writer.Io e) = HasFailed old new × IsTold old.has_failed new.has_failed new.last e
AskedWriteRefused old new (writer.WriteSizeLimit n) = HasServed old new
AskedWriteRefused old new _ = ⊥

-- what a reader over a device has left, and for how many of these bytes its device was asked and served
pub record ReadFrom : Type 0 where
  pub rest : List ℕ
  pub shown : ℕ
  pub device : DeviceState

-- A reader of these bytes over a device: at hand are those that the device gave.
abbrev pub over_device : ReadFrom → ReaderState
over_device r = record {
  rest = r.rest;
  ready = min r.shown (length r.rest);
  lends = nothing;
  never_fails = false;
  counts_windows = false;
  failures = r.device.failures;
  has_failed = r.device.has_failed;
  last = r.device.last;
  is_known = true;
  place = None;
}

-- what a writer over a device has written, and to which slice, and for how many bytes more its device was asked and served
pub record WrittenTo : Type 0 where
  pub content : SliceState
  pub slice : GName
  pub made : ℕ
  pub device : DeviceState

-- A writer of this content over a device: room is made where the device served.
abbrev pub slice_over : WrittenTo → WriterState slice_put slice_room GName
slice_over w = record {
  content = w.content;
  kept = w.slice;
  never_fails = false;
  failures = w.device.failures;
  has_failed = w.device.has_failed;
  last = w.device.last;
  finishes = 0;
  ready = min w.made (slice_room w.content);
}
