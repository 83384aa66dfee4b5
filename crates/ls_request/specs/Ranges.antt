-- What holds of each request that is read.
use Rattle.std.specs.Prelude.{ℕ, ◌^◌, ◌<◌, ◌≤◌, length, IfSome}
use Rattle.ls_value.specs.declared.limits.TheConstants.{GREATEST_NUMBER, GREATEST_ORDINAL}
use Rattle.ls_event.specs.declared.event.Snap.{Snap}
use Rattle.ls_event.specs.declared.event.Snap.TheVariants as snap
use Rattle.ls_request.specs.declared.limits.TheConstants.{LEAST_KEEPALIVE, GREATEST_KEEPALIVE, LEAST_LENGTH}
use Rattle.ls_request.specs.declared.limits.TheConstants.{MOST_OWN_NAME}
use Rattle.ls_request.specs.declared.request.Create.{Create}
use Rattle.ls_request.specs.declared.request.Bind.{Bind}
use Rattle.ls_request.specs.declared.request.Add.{Add}
use Rattle.ls_request.specs.declared.request.Op.{Op}
use Rattle.ls_request.specs.declared.request.Op.TheVariants as op
use Rattle.ls_request.specs.declared.request.Control.{Control}
use Rattle.ls_request.specs.declared.request.Request.{Request}
use Rattle.ls_request.specs.declared.request.Request.TheVariants as request

-- thousandths of a frequency or a bandwidth
abbrev pub IsRate : ℕ → Type 0
IsRate n = (1 ≤ n) × (n < 10 ^ 12)

-- a keep-alive time
abbrev pub IsKeepalive : ℕ → Type 0
IsKeepalive n = (LEAST_KEEPALIVE ≤ n) × (n ≤ GREATEST_KEEPALIVE)

-- a content length
abbrev pub IsLength : ℕ → Type 0
IsLength n = (LEAST_LENGTH ≤ n) × (n ≤ GREATEST_NUMBER)

-- a subscription's number, a size or a number of rows
abbrev pub IsOrdinal : ℕ → Type 0
IsOrdinal n = (1 ≤ n) × (n ≤ GREATEST_ORDINAL)

-- a snapshot of so many rows says an ordinal
abbrev pub SnapFits : Snap → Type 0
SnapFits snap.No = Unit {0}
SnapFits snap.All = Unit {0}
SnapFits (snap.Last n) = IsOrdinal n

-- each request that is read keeps to these
pub record CreateFits (c : Create) : Type 0 where
  pub keepalive : IsKeepalive c.keepalive
  pub bandwidth : IfSome c.bandwidth IsRate
  pub length : IfSome c.length IsLength

pub record BindFits (b : Bind) : Type 0 where
  pub session : b.session ≤ GREATEST_NUMBER
  pub recover : IfSome b.recover (λ n. n ≤ GREATEST_NUMBER)
  pub keepalive : IsKeepalive b.keepalive
  pub length : IfSome b.length IsLength

pub record AddFits (a : Add) : Type 0 where
  pub sub : IsOrdinal a.sub
  pub snapshot : SnapFits a.snapshot
  pub size : IfSome a.size IsOrdinal
  pub frequency : IfSome a.frequency IsRate

abbrev pub OpFits : Op → Type 0
OpFits (op.Add a) = AddFits a
OpFits (op.Delete sub) = IsOrdinal sub
OpFits (op.Reconf sub frequency) = IsOrdinal sub × IfSome frequency IsRate
OpFits (op.Constrain bandwidth) = IfSome bandwidth IsRate
OpFits op.ForceRebind = Unit {0}
OpFits op.Destroy = Unit {0}

pub record ControlFits (c : Control) : Type 0 where
  pub some : 1 ≤ length c.req
  pub most : length c.req ≤ MOST_OWN_NAME
  pub session : IfSome c.session (λ n. n ≤ GREATEST_NUMBER)
  pub op : OpFits c.op

abbrev pub RequestFits : Request → Type 0
RequestFits (request.Create c) = CreateFits c
RequestFits (request.Bind b) = BindFits b
RequestFits (request.Control c) = ControlFits c
RequestFits request.Wsok = Unit {0}
