mod Computed
mod Forms
